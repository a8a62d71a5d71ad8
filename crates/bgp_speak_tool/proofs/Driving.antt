-- What an end's core was told, and what its capture took, one stretch after another.
use Rattle.std.proofs.Common.{◌≡◌, ◌∙◌, ℕ, List, [], ◌∷◌, ◌++◌, Option, map, ap, sym, subst, refl, append_assoc, append-nil}
use Rattle.std.proofs.lemmas.List.Concat.{flat_map-append}
use Rattle.bgp_prefix.specs.Shown.{ShownRecord}
use Rattle.bgp_open.specs.declared.config.Config.{Config}
use Rattle.mrt.specs.declared.sink.FromWrite.{FromWrite}
use Rattle.mrt.specs.FromWrite.{WriterState, writer_state, Takes}
use Rattle.mrt.specs.OverCalls.{appends_nothing, appends_joined}
use Rattle.mrt.specs.Written.{record_octets}
use Rattle.bgp_speaker.specs.declared.engine.Output.{Output}
use Rattle.bgp_speaker.specs.Answers.{Answers}
use Rattle.bgp_speaker.specs.Choosing.{Chooses, Drives}
use Rattle.bgp_speaker.specs.Core.{CoreState, InputValue}
use Rattle.bgp_speaker.specs.Shown.{shown_value}
use Rattle.bgp_talk.specs.Talk.{capture_of}
use Rattle.bgp_speak_tool.specs.Pairing.{Drove}

drives_joined : (a b c : CoreState) (xs ys : List (ℕ × InputValue)) (r more : List ShownRecord)
    → Drives a xs r b → Drives b ys more c → Drives a (xs ++ ys) (r ++ more) c
drives_joined a b c [] ys r more first second =
    subst (λ (q : List ShownRecord). Drives a ys (q ++ more) c) (sym first.0)
    (subst (λ (q : CoreState). Drives q ys more c) first.1 second)
drives_joined a b c (x ∷ xs) ys r more first second = (
  first.0,
  first.1,
  first.2 ++ more,
  first.3,
  drives_joined first.1 b c xs ys first.2 more first.4 second,
  ap (λ (q : List ShownRecord). q ++ more) first.5 ∙ append_assoc first.0 first.2 more,
)

-- what is answered to an input that is the same is chosen on it
pub chosen_of : {X : Type 0} (a b : CoreState) (input same : InputValue) (second : ℕ) (out : Output X) → input ≡ same → Answers a input second out b
    → Chooses a same second (map shown_value out.records.items) b
chosen_of a b input same second out is x =
    subst (λ (i : InputValue). Chooses a i second (map shown_value out.records.items) b) is
    (subst (λ (r : List ShownRecord). Chooses a input second r b) (sym x.records_are) x.chooses)

module _ {W : Type 0} (contents : W → Option (List ℕ)) (config : Config) where
  -- nothing
  pub drove_none : (a : CoreState) (state : WriterState W) → Drove contents config a state a state
  drove_none a state = record {
    inputs = [];
    records = [];
    drives = (refl, refl);
    wrote = appends_nothing (contents state.writer);
  }

  -- one input
  pub drove_one : (a b : CoreState) (old new : WriterState W) (input : InputValue) (second : ℕ) (records : List ShownRecord)
      → Chooses a input second records b → Takes contents old new (capture_of config records) → Drove contents config a old b new
  drove_one a b old new input second records chosen wrote = record {
    inputs = (second, input) ∷ [];
    records = records;
    drives = (records, b, [], chosen, (refl, refl), sym (append-nil records));
    wrote = wrote;
  }

  -- and then more
  pub drove_then : (a b c : CoreState) (old mid new : WriterState W)
      → Drove contents config a old b mid → Drove contents config b mid c new → Drove contents config a old c new
  drove_then a b c old mid new first second = record {
    inputs = first.inputs ++ second.inputs;
    records = first.records ++ second.records;
    drives = drives_joined a b c first.inputs second.inputs first.records second.records first.drives second.drives;
    wrote = subst (λ (o : List ℕ). Takes contents old new o)
        (sym (flat_map-append (record_octets config.parts.session config.parts.peer_as config.parts.local_as) first.records second.records))
        (appends_joined (contents old.writer) (contents mid.writer) (contents new.writer) (capture_of config first.records) (capture_of config second.records) first.wrote second.wrote);
  }

  -- and then more, under what is the same configuration
  pub drove_on : (other : Config) (a b c : CoreState) (old mid new : WriterState W) → other ≡ config
      → Drove contents config a old b mid → Drove contents other b mid c new → Drove contents config a old c new
  drove_on other a b c old mid new is first second =
      drove_then a b c old mid new first (subst (λ (some : Config). Drove contents some b mid c new) is second)

  -- and then more, of what is the same core and sink
  pub drove_next : (other : Config) (a b b' c : CoreState) (old : WriterState W) (k k' : FromWrite W) (new : WriterState W)
      → other ≡ config → b' ≡ b → k' ≡ k
      → Drove contents config a old b (writer_state k) → Drove contents other b' (writer_state k') c new → Drove contents config a old c new
  drove_next other a b b' c old k k' new is core capture first second =
      drove_on other a b c old (writer_state k) new is first
      (subst (λ (s : CoreState). Drove contents other s (writer_state k) c new) core
      (subst (λ (q : FromWrite W). Drove contents other b' (writer_state q) c new) capture second))
