-- What is put of connections one after another, and of a recording.
use Rattle.std.proofs.Common.{◌≡◌, ◌∙◌, ◌++◌, ◌+◌, ℕ, suc, List, [], ◌∷◌, Option, None, Some, length, Bool, refl, sym, ap, subst, inl, inr, append-nil, append_assoc, codes, arith}
use Rattle.packets.specs.Packet.{Recorded}
use Rattle.streams.specs.Passed.{Segment}
use Rattle.streams.specs.declared.connection.Opening.{Opening}
use Rattle.mrt.specs.declared.sink.Sink as sinks
use Rattle.bgp_open.specs.declared.config.Config.{Config}
use Rattle.bgp_text.proofs.Pieces.{Joins}
use Rattle.bgp_verdict_lines.specs.Lines.{PutsLines}
use Rattle.bgp_verdict_lines.specs.declared.verdict_lines.VerdictLines.{VerdictLines}
use Rattle.bgp_verdict_lines.proofs.Puts.{no_lines, then_lines}
use Rattle.bgp_import.specs.Gathers.{HasReadAll, IsStopped, cut_short_by, failures_by}
use Rattle.bgp_import.specs.declared.cut_short.CutShort.{CutShort}
use Rattle.bgp_import.specs.ListText.{opening_text}
use Rattle.bgp_import.specs.Refusals.{refusal_line}
use Rattle.bgp_import.specs.declared.importing.Import.{Import}
use Rattle.bgp_import.specs.declared.refusal.Refusal.{Refusal}
use Rattle.bgp_recording_tool.specs.declared.remark.Remark.{Remark}
use Rattle.bgp_recording_tool.specs.Remarks.{AddsTold, IsHelp}
use Rattle.bgp_recording_tool.specs.Told.{refused_status, status_over, told_status}
use Rattle.bgp_recording_tool.proofs.Statuses.{over_more}
use Rattle.bgp_recording_tool.specs.Connections.{AllAreTold, AreTold, IsOpening, IsToldAs}
use Rattle.bgp_explain.specs.declared.report.Report.{Report}
use Rattle.bgp_recording_tool.specs.Judging.{Puts, TellsRecording}

module _ {X T : Type 0} {sink : sinks.Ghosts T} (a b : VerdictLines X T sink) (r s : List Remark) where
  -- what was put tells another thing, too
  pub put_as : {P Q : List ℕ → ℕ → List Remark → Type 0} (status : ℕ)
      → ((text : List ℕ) (own : List Remark) → P text status own → Q text status own) → Puts a b r s status P → Puts a b r s status Q
  put_as status so puts = record {
    text = puts.text;
    own = puts.own;
    wrote = puts.wrote;
    added = puts.added;
    holds = so puts.text puts.own puts.holds;
  }

module _ {X T : Type 0} {sink : sinks.Ghosts T} (law : Joins sink) (a b c d : VerdictLines X T sink) (r s t : List Remark)
    (config : Config) (report : Report) (wanted : Import) (packets : List Recorded) (segments : List Segment) where
  -- one connection more
  one_more : (n before code status : ℕ) (opening : Opening) → Puts a b r s before (AreTold config report wanted packets segments n)
      → IsOpening config wanted packets segments (suc n) opening
      → PutsLines b c (opening_text config.parts.session opening ++ codes "\n")
      → Puts c d s t code (IsToldAs config report wanted packets segments (Some (suc n)) (Some (suc n)))
      → status ≡ status_over (before ∷ code ∷ [])
      → Puts a d r t status (AreTold config report wanted packets segments (suc n))
  one_more n before code status opening so_far opens wrote told is =
      let line = opening_text config.parts.session opening in record {
        text = so_far.text ++ ((line ++ codes "\n") ++ told.text);
        own = so_far.own ++ told.own;
        wrote = then_lines law so_far.wrote (then_lines law wrote told.wrote);
        added = told.added ∙ ap (λ (x : List Remark). x ++ told.own) so_far.added ∙ append_assoc r so_far.own told.own;
        holds = record {
          statuses = told_status told.holds.told ∷ so_far.holds.statuses;
          each = record {
            earlier = so_far.text;
            before_it = so_far.holds.statuses;
            others = so_far.own;
            before = so_far.holds.each;
            opening = opening;
            opens = opens;
            told = told.holds.told;
            own = told.own;
            is_told = told.holds.is_told;
            prints = ap (λ (x : List ℕ). so_far.text ++ x) (append_assoc line (codes "\n") told.text ∙ ap (λ (x : List ℕ). line ++ (codes "\n" ++ x)) told.holds.prints);
            tells = refl;
            remarked = refl;
          };
          tells = is ∙ ap (λ (k : ℕ). status_over (k ∷ code ∷ [])) so_far.holds.tells
              ∙ ap (λ (k : ℕ). status_over (status_over so_far.holds.statuses ∷ k ∷ [])) told.holds.tells
              ∙ sym (over_more (told_status told.holds.told) so_far.holds.statuses);
        };
      }

  pub one_more_at : (n number before code status : ℕ) (opening : Opening) → number ≡ suc n
      → Puts a b r s before (AreTold config report wanted packets segments n)
      → IsOpening config wanted packets segments number opening
      → PutsLines b c (opening_text config.parts.session opening ++ codes "\n")
      → Puts c d s t code (IsToldAs config report wanted packets segments (Some number) (Some number))
      → status ≡ status_over (before ∷ code ∷ [])
      → Puts a d r t status (AreTold config report wanted packets segments number)
  one_more_at n number before code status opening next so_far opens wrote told is =
      (subst
      (λ (k : ℕ). IsOpening config wanted packets segments k opening
      → Puts c d s t code (IsToldAs config report wanted packets segments (Some k) (Some k))
      → Puts a d r t status (AreTold config report wanted packets segments k))
      (sym next)
      (λ o told'. one_more n before code status opening so_far o wrote told' is))
      opens told

-- before the first connection nothing is put
pub none_put : {X T : Type 0} (sink : sinks.Ghosts T) → ((x : T) → sink.takes x x []) → (a : VerdictLines X T sink) (r : List Remark)
    (config : Config) (report : Report) (wanted : Import) (packets : List Recorded) (segments : List Segment)
    → Puts a a r r 0 (AreTold config report wanted packets segments 0)
none_put sink nothing a r config report wanted packets segments = record {
  text = [];
  own = [];
  wrote = no_lines nothing a;
  added = sym (append-nil r);
  holds = record { statuses = []; each = (refl, refl, refl); tells = refl };
}

-- ---- a recording

same_count : (old new : ℕ) → new ≡ old + 0 → new ≡ old
same_count old new is = omega (arith, is)

module _ {S X T : Type 0} {sink : sinks.Ghosts T} (gives : S → S → List ℕ → Type 0) (has_ended : S → Bool) (failures : S → ℕ)
    (config : Config) (report : Report) (wanted : Import) (old new : S) (a b : VerdictLines X T sink) (r s : List Remark) (status : ℕ) (cut_short : Option CutShort) where
  -- it was read to its end
  pub was_read : (octets : List ℕ) (packets : List Recorded) (segments : List Segment) (cut : Bool)
      → HasReadAll gives has_ended wanted.selection old new octets packets segments cut → cut_short ≡ cut_short_by cut (length packets)
      → failures new ≡ failures old + 0
      → Puts a b r s status (AllAreTold config report wanted packets segments)
      → Puts a b r s status (TellsRecording gives has_ended failures config report wanted old new cut_short)
  was_read octets packets segments cut all is_cut counted puts = record {
    text = puts.text;
    own = puts.own;
    wrote = puts.wrote;
    added = puts.added;
    holds = inl record {
      octets = octets;
      packets = packets;
      segments = segments;
      cut = cut;
      all = all;
      is_cut = is_cut;
      told = puts.holds;
      counted = same_count (failures old) (failures new) counted;
    };
  }

  -- it is refused
  pub was_refused : (refusal : Refusal) → IsStopped gives has_ended wanted.selection old new refusal
      → failures new ≡ failures old + failures_by refusal → PutsLines a b (refusal_line refusal) → status ≡ refused_status refusal → AddsTold r s (IsHelp None refusal) → cut_short ≡ None
      → Puts a b r s status (TellsRecording gives has_ended failures config report wanted old new cut_short)
  was_refused refusal stopped counted wrote is adds uncut = record {
    text = refusal_line refusal;
    own = adds.own;
    wrote = wrote;
    added = adds.added;
    holds = inr record { refusal = refusal; stopped = stopped; prints = refl; tells = is; helps = adds.is_told; uncut = uncut; counted = counted };
  }
