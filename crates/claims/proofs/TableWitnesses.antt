-- Single tables that shut out wrong ones which look right (02, Six): a definition so wrong would break one of these. Assumes nothing.
use Rattle.std.specs.Prelude.{Ok, Err, Some, None, Option}
use mathlib.Core.List.{List, [], ◌∷◌, ◌++◌}
use mathlib.Core.Path.{◌≡◌, refl}
use Prim.Native.Nat.{ℕ, zero, suc}
use lib.ListN.{replicate}
use Rattle.action.specs.Openings.{opens_with}
use Rattle.answer.specs.Checks.{Outcome, checked}
use Rattle.answer.specs.declared.Refusal.{Refusal}
use Rattle.element.specs.ChannelSwitch.{switch_means}
use Rattle.frame.specs.Actions.{action_means}
use Rattle.frame.specs.Frames.{frame_means}
use Rattle.header.specs.Headers.{foreign_header, foreign_address, to_all, header_means, management_means, address_means}
use Rattle.octets.specs.Elements.{fixed}
use Rattle.row.specs.Rows.{row_ticked}
use Rattle.single_body.specs.Singles.{single}
use Rattle.station.specs.Taking.{announced, informed}
use Rattle.station.specs.declared.Station.{Station}
use Rattle.table.specs.Tables.{some_row, on_first, first_such, station_of, empty, join_means, join_of, leave_means, leave_of, tick_means, tick_of, reader_of, hearing, take_means, take_of}
use Rattle.table.specs.declared.Table.{Table}
use Rattle.table.specs.declared.taking.Taken.{Taken}
use Rattle.walk.specs.Elements.{elements_after, elements_in}
use Rattle.walk.specs.Handed.{passing, handing}
use Rattle.walk.specs.Required.{required, nothing_left}
use Rattle.claims.specs.Moments.{ours}
use Rattle.pending.specs.declared.Switch.{Switch}

abbrev address : ℕ → List ℕ
address last = 2 ∷ 0 ∷ 0 ∷ 0 ∷ 0 ∷ last ∷ []

abbrev table : Table
table = empty ours.ap 100

-- so many have joined
unfoldable pub crowd : ℕ → Table
crowd zero = table
crowd (suc n) = (join_of (crowd n) (address n) 36).table

-- an announcement to an address: mode 0, channel 40, count 1
abbrev announcing : List ℕ → List ℕ
announcing to = (208 ∷ 0 ∷ 0 ∷ 0 ∷ []) ++ to ++ ours.ap ++ ours.ap ++ (0 ∷ 0 ∷ 0 ∷ 4 ∷ 37 ∷ 3 ∷ 0 ∷ 40 ∷ 1 ∷ [])

abbrev awaited : Outcome Station → Option Switch
awaited (Err r) = None
awaited (Ok s) = s.pending

-- a row that is joined at 150 has the table's TBTTs: a count of 1 leads to 200
abbrev joined_late : Table
joined_late = (join_of (tick_of table 150).table (address 1) 36).table

pub next_tbtt : awaited (station_of (take_of joined_late (announcing (address 1))).table (address 1)) ≡ Some (record { at = 200; mode = 0; channel = 40 })
unfolding join_means some_row on_first first_such tick_means row_ticked checked take_means reader_of hearing frame_means header_means management_means address_means foreign_header foreign_address to_all elements_in elements_after switch_means fixed action_means opens_with required handing passing nothing_left single announced informed
next_tbtt = refl

-- a frame to all ones is taken by the last of two rows too, and one to the first is not
pub last_row_too : awaited (station_of (take_of (crowd 2) (announcing (replicate 6 255))).table (address 1)) ≡ Some (record { at = 100; mode = 0; channel = 40 })
unfolding crowd join_means some_row on_first first_such checked take_means reader_of hearing frame_means header_means management_means address_means foreign_header foreign_address to_all elements_in elements_after switch_means fixed action_means opens_with required handing passing nothing_left single announced informed
last_row_too = refl

pub another_not : awaited (station_of (take_of (crowd 2) (announcing (address 0))).table (address 1)) ≡ None
unfolding crowd join_means some_row on_first first_such checked take_means reader_of hearing frame_means header_means management_means address_means foreign_header foreign_address to_all elements_in elements_after switch_means fixed action_means opens_with required handing passing nothing_left single announced informed
another_not = refl

-- with nobody joined it is accepted all the same, and one to a stranger is not
pub nobody_joined : (take_of table (announcing (replicate 6 255))).verdict ≡ Ok tt
unfolding some_row checked take_means reader_of frame_means header_means management_means address_means foreign_header foreign_address to_all elements_in elements_after switch_means fixed action_means opens_with required handing passing nothing_left single
nobody_joined = refl

-- a seventeenth finds no row, one of the sixteen is told that it is joined, and a channel over 200 comes first
pub seventeenth : (join_of (crowd 16) (address 16) 36).answer ≡ Err Refusal.NoFreeRow
unfolding crowd join_means some_row on_first checked
seventeenth = refl

pub joined_already : (join_of (crowd 16) (address 15) 36).answer ≡ Err Refusal.AlreadyJoined
unfolding crowd join_means some_row on_first checked
joined_already = refl

pub channel_first : (join_of (crowd 16) (address 15) 201).answer ≡ Err Refusal.BadStart
unfolding join_means checked
channel_first = refl

-- a row that was left is used again
pub room_again : (join_of (leave_of (crowd 16) (address 7)).table (address 16) 36).answer ≡ Ok tt
unfolding crowd join_means leave_means some_row on_first checked
room_again = refl

-- of two frames to one station the later one counts, so their order matters: a switch at once to one channel, and then to another
abbrev switching : ℕ → List ℕ
switching channel = (208 ∷ 0 ∷ 0 ∷ 0 ∷ []) ++ address 0 ++ ours.ap ++ ours.ap ++ (0 ∷ 0 ∷ 0 ∷ 4 ∷ 37 ∷ 3 ∷ 0 ∷ channel ∷ 0 ∷ [])

abbrev channel_in : Outcome Station → ℕ
channel_in (Err r) = 0
channel_in (Ok s) = s.channel

abbrev switched_twice : ℕ → ℕ → Taken
switched_twice first second = take_of (take_of (crowd 1) (switching first)).table (switching second)

pub later_counts : (channel_in (station_of (switched_twice 44 48).table (address 0)) ≡ 48) × (channel_in (station_of (switched_twice 48 44).table (address 0)) ≡ 44)
unfolding crowd join_means some_row on_first first_such checked take_means reader_of hearing frame_means header_means management_means address_means foreign_header foreign_address to_all elements_in elements_after switch_means fixed action_means opens_with required handing passing nothing_left single announced informed
later_counts = (refl, refl)

pub both_accepted : ((switched_twice 44 48).verdict ≡ Ok tt) × ((switched_twice 48 44).verdict ≡ Ok tt)
unfolding crowd join_means some_row on_first first_such checked take_means reader_of hearing frame_means header_means management_means address_means foreign_header foreign_address to_all elements_in elements_after switch_means fixed action_means opens_with required handing passing nothing_left single announced informed
both_accepted = (refl, refl)
