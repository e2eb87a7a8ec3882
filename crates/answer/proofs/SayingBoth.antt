-- Two facts of an `ensures` of two clauses: `denote.Triple.Walked`'s `says`, twice. Assumes nothing.
use mathlib.Core.List.{List}
use seplogic.Ra.Ura.{Ura}
use base.Logic.{SProp, sep, emp, via, comm∗, emp∗, mono_l, mono∗}
use types.Logic.{Logic}
use contract.Monad.{fact, fact_i}
use types.Kit.{Item, prop, Step, step}

pub says_both : {M : Type 1} {𝓤 : Ura M} {𝓛 : Logic 𝓤} {K : Type 0} {Γ : List (Item 𝓤)} → K → {φ ψ : Type 0} {P : SProp 𝓤} → φ → ψ → Step K 𝓛 Γ (prop P) Γ (prop (sep 𝓤 P (sep 𝓤 (fact 𝓤 φ) (fact 𝓤 ψ))))
says_both {𝓤 = 𝓤} t {φ} {ψ} {P} x y =
    step (λ s. record {
      prf =
          via 𝓤 P s.prf (via 𝓤 (sep 𝓤 (emp 𝓤) P) (emp∗ 𝓤 P)
          (via 𝓤 (sep 𝓤 (sep 𝓤 (fact 𝓤 φ) (fact 𝓤 ψ)) P)
          (mono_l 𝓤 P (via 𝓤 (sep 𝓤 (emp 𝓤) (emp 𝓤)) (emp∗ 𝓤 (emp 𝓤)) (mono∗ 𝓤 (fact_i 𝓤 φ (emp 𝓤) x) (fact_i 𝓤 ψ (emp 𝓤) y))))
          (comm∗ 𝓤 (sep 𝓤 (fact 𝓤 φ) (fact 𝓤 ψ)) P)));
    })
