-- Every reply has the header that 01 asks for ("Replies": DA, SA, BSSID, flags, duration, sequence control), beside the octets of the frame that it
-- answers. Nothing is asked of the two addresses: a frame that is due a reply has them in it, so each is of six octets. Assumes nothing.
use Rattle.std.specs.Prelude.{Ok}
use mathlib.Core.List.{List}
use mathlib.Core.Logic.{◌⊎◌, inl, inr}
use mathlib.Core.Path.{◌≡◌, refl, sym, ◌∙◌, subst₂}
use Prim.Native.Nat.{ℕ}
use Rattle.element.specs.declared.tpc_report.TpcReport.{TpcReport}
use Rattle.measured_report.specs.declared.Readings.{Readings}
use Rattle.reply.specs.Due.{Owed, due_means}
use Rattle.reply.specs.Frames.{reply_frame}
use Rattle.reply.specs.Replies.{tpc_reply, measurement_reply}
use Rattle.claims.proofs.DueFrames.{owed_by_station}
use Rattle.claims.proofs.ReplyParts.{TpcParts, MeasurementParts, ReturnParts, tpc_parts, measurement_parts}
use Rattle.claims.specs.ReplyHeads.{RepliesTo}

module _ (own ap f : List ℕ) where
  -- whatever is put after a reply's header
  pub reply_head : (x : Owed) (body : List ℕ) → due_means own ap f ≡ Ok x → RepliesTo f own (reply_frame own ap body)
  reply_head x body e =
      let a = owed_by_station own ap f x e in
      subst₂ (λ (o m : List ℕ). RepliesTo f o (reply_frame o m body)) a.to_station a.from_ap
      (record {
        of_version = refl;
        of_type = refl;
        of_subtype = refl;
        to_old_sender = refl;
        from_station = refl;
        bssid_kept = a.from_ap ∙ sym a.of_bss;
        no_flags = refl;
        no_duration = refl;
        no_sequence = refl;
      })

  module _ (os : List ℕ) where
    pub tpc_reply_head : (report : TpcReport) → tpc_reply own ap report f ≡ Ok os → RepliesTo f own os
    tpc_reply_head report e = by (tpc_parts own ap f os report e)
      where
        by : TpcParts own ap f os report ⊎ ReturnParts own ap f os → RepliesTo f own os
        by (inl p) = rw p.octets (reply_head _ _ p.due)
        by (inr p) = rw p.octets (reply_head _ _ p.due)

    pub measurement_reply_head : (clock index : ℕ) (readings : Readings) → measurement_reply own ap clock index readings f ≡ Ok os → RepliesTo f own os
    measurement_reply_head clock index readings e = by (measurement_parts own ap f os clock index readings e)
      where
        by : MeasurementParts own ap f os clock index readings ⊎ ReturnParts own ap f os → RepliesTo f own os
        by (inl p) = rw p.octets (reply_head _ _ p.due)
        by (inr p) = rw p.octets (reply_head _ _ p.due)
