-- Where what is well is left out, each piece that isn't stays.
use Rattle.std.proofs.Common.{◌≡◌, ◌++◌, ◌&&◌, ℕ, Bool, true, false, IsFalse, List, [], ◌∷◌, if◌then◌else◌, inl, inr, refl, sym, ap, append-nil, subst, not, arith}
use Rattle.std.specs.List.{flat_map}
use Rattle.bgp_list.specs.Connections.{connection_text, refused_between_text, refused_connection_text}
use Rattle.bgp_check_lines.specs.Quiet.{is_well}
use Rattle.bgp_check_tool.specs.Blocks.{AllRefused, BothEnds, OneEnd, Refused, neither_text}
use Rattle.bgp_check_tool.specs.Quiet.{QuietKeepsTrouble}
use Rattle.bgp_check_tool.specs.Text.{told_lines}
use Rattle.bgp_check_tool.specs.Told.{EndTold}

-- a text of three pieces
three : (a b c : List ℕ) → a ++ (b ++ (c ++ [])) ≡ a ++ (b ++ c)
three a b c = ap (λ (t : List ℕ). a ++ (b ++ t)) (append-nil c)

module _ (heading opener other : List ℕ) where
  part : (x y : Bool) → (if x && y then [] else heading ++ ((if x then [] else opener) ++ (if y then [] else other)))
      ≡ flat_map (λ (p : List ℕ × Bool). if p.1 then p.0 else []) ((heading, not (x && y)) ∷ (opener, not x) ∷ (other, not y) ∷ [])
  part true true = refl
  part true false = sym (three heading [] other)
  part false true = refl
  part false false = sym (three heading opener other)

is_kept : (well : Bool) → IsFalse well → not well ≡ true
is_kept true trouble = let k : ⊥ = cc in absurd k
is_kept false trouble = refl

same_piece : (routes : Bool) (told its : EndTold) → told ≡ its → IsFalse (is_well told.answer) → ◌≡◌ {A = List ℕ × Bool} (told_lines routes its, not (is_well its.answer)) (told_lines routes told, true)
same_piece routes told its same trouble =
    let kept = is_kept (is_well its.answer) (subst (λ (e : EndTold). IsFalse (is_well e.answer)) same trouble) in
    let lines = sym (ap (told_lines routes) same) in
    λ i. (lines i, kept i)

pub quiet_keeps : QuietKeepsTrouble
quiet_keeps routes (BothEnds session opening outline first second opener other) =
    let x = is_well opener.answer in
    let y = is_well other.answer in
    let heading = connection_text session opening outline first second in
    record {
      thinned = record {
        pieces = (heading, not (x && y)) ∷ (told_lines routes opener, not x) ∷ (told_lines routes other, not y) ∷ [];
        is_whole = sym (three heading (told_lines routes opener) (told_lines routes other));
        is_part = part heading (told_lines routes opener) (told_lines routes other) x y;
      };
      ends = λ told is trouble. elim is [
        | inl same ↦ (1, omega arith, same_piece routes told opener same trouble)
        | inr same ↦ (2, omega arith, same_piece routes told other same trouble)
      ];
      refusals = λ refusal is. (let k : ⊥ = cc in absurd k);
    }
quiet_keeps routes (OneEnd session opening outline first second) = record {
  thinned = record {
    pieces = (connection_text session opening outline first second ++ neither_text session opening, false) ∷ [];
    is_whole = sym (append-nil _);
    is_part = refl;
  };
  ends = λ told is trouble. absurd is;
  refusals = λ refusal is. (let k : ⊥ = cc in absurd k);
}
quiet_keeps routes (Refused session opening refusal) = record {
  thinned = record { pieces = (refused_connection_text session opening refusal, true) ∷ []; is_whole = sym (append-nil _); is_part = sym (append-nil _) };
  ends = λ told is trouble. absurd is;
  refusals = λ it is. refl;
}
quiet_keeps routes (AllRefused addresses refusal) = record {
  thinned = record { pieces = (refused_between_text addresses refusal, true) ∷ []; is_whole = sym (append-nil _); is_part = sym (append-nil _) };
  ends = λ told is trouble. absurd is;
  refusals = λ it is. refl;
}
