pub mod CountingUnits
pub mod KeptFit
pub mod TbttByTbtt
