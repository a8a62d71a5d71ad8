-- The texts of errors, one after another: two lists of errors have two texts.
use Rattle.std.proofs.Common.{◌≡◌, ◌∙◌, ◌<◌, ◌^◌, ◌/◌, ◌%◌, ◌==◌, ◌++◌, ℕ, true, false, not, List, [], ◌∷◌, Option, if◌then◌else◌, codes, refl, sym, ap, arith, lit<, slice_index, unwrap_or, append_assoc, append-nil}
use Rattle.std.specs.Fmt.{decimal}
use Rattle.std.specs.List.{AllByRecursion}
use Rattle.std.proofs.lemmas.Bool.{and_parts, both_ways, eq-eqb, not-true}
use Rattle.std.proofs.lemmas.Fmt.{decimal_injective}
use mathlib.Core.List.{append_cancel_left}
use Rattle.byteorder.specs.Endian.{big_bytes}
use Rattle.hex.specs.Hex.{encode_lower, encode_with, hex_digit_value, lower_digits}
use Rattle.hex.proofs.HexLemmas.{IsDigits-lower_digits}
use Rattle.bgp_names.specs.Errors.{short_error_name}
use Rattle.bgp_names.proofs.Distinct.{decimal_lacks, head_of, lacks, one_front, tail_of}
use Rattle.bgp_why_parts.specs.Codes.{code_text}

differ : (m n : ℕ) → (m == n) ≡ false → m ≡ n → ⊥
differ m n isnt is = both_ways (m == n) isnt (eq-eqb m n is)

-- ---- errors: the types of bgp_why are its own

-- the data that an error has to have
pub data FixedData : Type 0 where
  Free : FixedData
  Octet : ℕ → FixedData
  Field : ℕ → FixedData

pub record ErrorCode : Type 0 where
  pub code : ℕ
  pub subcode : ℕ
  pub fixed : FixedData

abbrev pub data_text : FixedData → List ℕ
data_text Free = []
data_text (Octet octet) = codes " with data " ++ encode_lower (octet ∷ [])
data_text (Field field) = codes " with data " ++ encode_lower (big_bytes 2 field)

abbrev pub error_text : ErrorCode → List ℕ
error_text error = code_text error.code error.subcode ++ data_text error.fixed

abbrev pub more_errors : List ℕ → List ErrorCode → List ℕ
more_errors word [] = []
more_errors word (error ∷ []) = word ++ error_text error
more_errors word (error ∷ another ∷ errors) = codes ", " ++ (error_text error ++ more_errors word (another ∷ errors))

abbrev pub errors_text : List ℕ → List ErrorCode → List ℕ
errors_text word [] = []
errors_text word (error ∷ errors) = error_text error ++ more_errors word errors

-- ---- a code, and what stands behind it

abbrev pub behind_code : ℕ → ℕ → List ℕ → List ℕ
behind_code k l x = codes "/" ++ (decimal l ++ (codes " (" ++ (short_error_name k l ++ (codes ")" ++ x))))

spread : (k l : ℕ) (x : List ℕ) → code_text k l ++ x ≡ decimal k ++ behind_code k l x
unfolding code_text
spread k l x =
    append_assoc (decimal k) (codes "/" ++ (decimal l ++ (codes " (" ++ (short_error_name k l ++ codes ")")))) x
    ∙ ap (λ (t : List ℕ). decimal k ++ (47 ∷ t)) (append_assoc (decimal l) (codes " (" ++ (short_error_name k l ++ codes ")")) x
    ∙ ap (λ (t : List ℕ). decimal l ++ (32 ∷ 40 ∷ t)) (append_assoc (short_error_name k l) (codes ")") x))

one_code_front : (k l m n : ℕ) (x y : List ℕ) → k < 2 ^ 64 → l < 2 ^ 64 → m < 2 ^ 64 → n < 2 ^ 64 → code_text k l ++ x ≡ code_text m n ++ y
    → (k ≡ m) × ((l ≡ n) × (x ≡ y))
one_code_front k l m n x y sk sl sm sn e =
    let name = short_error_name k l in
    let left = decimal l ++ (codes " (" ++ (name ++ (codes ")" ++ x))) in
    let right = decimal n ++ (codes " (" ++ (short_error_name m n ++ (codes ")" ++ y))) in
    let whole : decimal k ++ (codes "/" ++ left) ≡ decimal m ++ (codes "/" ++ right) = sym (spread k l x) ∙ e ∙ spread m n y in
    let first = one_front 47 (decimal k) (decimal m) (codes "/" ++ left) (codes "/" ++ right) (decimal_lacks 47 k (lit< tt) sk) (decimal_lacks 47 m (lit< tt) sm) refl refl whole in
    let second = one_front 32 (decimal l) (decimal n) (codes " (" ++ (name ++ (codes ")" ++ x))) (codes " (" ++ (short_error_name m n ++ (codes ")" ++ y)))
    (decimal_lacks 32 l (lit< tt) sl) (decimal_lacks 32 n (lit< tt) sn) refl refl (append_cancel_left (codes "/") left right first.1) in
    let code = decimal_injective k m sk sm first.0 in
    let subcode = decimal_injective l n sl sn second.0 in
    let behind : name ++ (codes ")" ++ x) ≡ short_error_name m n ++ (codes ")" ++ y) =
    append_cancel_left (codes " (") (name ++ (codes ")" ++ x)) (short_error_name m n ++ (codes ")" ++ y)) second.1 in
    let named : name ≡ short_error_name m n = ap (λ (c : ℕ). short_error_name c l) code ∙ ap (λ (s : ℕ). short_error_name m s) subcode in
    let same : name ++ (codes ")" ++ x) ≡ name ++ (codes ")" ++ y) = behind ∙ ap (λ (t : List ℕ). t ++ (codes ")" ++ y)) (sym named) in
    (code, (subcode, append_cancel_left (codes ")") x y (append_cancel_left name (codes ")" ++ x) (codes ")" ++ y) same)))

-- ---- the data

-- which form the data have, and by the error
abbrev form_of : FixedData → ℕ
form_of Free = 0
form_of (Octet octet) = 1
form_of (Field field) = 2

abbrev pub form_by : ℕ → ℕ → ℕ
form_by code subcode =
    if code == 1 then (if subcode == 2 then 2 else (if subcode == 3 then 1 else 0))
    else (if code == 2 then (if subcode == 1 then 2 else 0) else 0)

abbrev Fits : FixedData → Type 0
Fits Free = Unit {0}
Fits (Octet octet) = octet < 256
Fits (Field field) = field < 65536

one_digit : (d e : ℕ) → d < 16 → e < 16 → slice_index lower_digits d ≡ slice_index lower_digits e → d ≡ e
one_digit d e sd se same =
    ap (λ (o : Option ℕ). unwrap_or o 0) (sym (IsDigits-lower_digits d sd) ∙ ap hex_digit_value same ∙ IsDigits-lower_digits e se)

abbrev digits_of : ℕ → List ℕ → List ℕ
digits_of o x = slice_index lower_digits (o / 16) ∷ slice_index lower_digits (o % 16) ∷ x

one_octet : (o p : ℕ) (x y : List ℕ) → o < 256 → p < 256 → digits_of o x ≡ digits_of p y → (o ≡ p) × (x ≡ y)
one_octet o p x y so sp e =
    let high = one_digit (o / 16) (p / 16) (omega (arith, so)) (omega (arith, sp)) (ap (head_of 0) e) in
    let low = one_digit (o % 16) (p % 16) (omega arith) (omega arith) (ap (λ (l : List ℕ). head_of 0 (tail_of l)) e) in
    (omega (arith, high, low), ap (λ (l : List ℕ). tail_of (tail_of l)) e)

one_data : (a b : FixedData) (x y : List ℕ) → form_of a ≡ form_of b → Fits a → Fits b → data_text a ++ x ≡ data_text b ++ y → (a ≡ b) × (x ≡ y)
unfolding encode_with
one_data Free Free x y form fa fb e = (refl, e)
one_data Free (Octet p) x y form fa fb e = absurd (differ 0 1 refl form)
one_data Free (Field g) x y form fa fb e = absurd (differ 0 2 refl form)
one_data (Octet o) Free x y form fa fb e = absurd (differ 1 0 refl form)
one_data (Octet o) (Octet p) x y form fa fb e =
    let same = one_octet o p x y fa fb (append_cancel_left (codes " with data ") (digits_of o x) (digits_of p y) e) in
    (ap Octet same.0, same.1)
one_data (Octet o) (Field g) x y form fa fb e = absurd (differ 1 2 refl form)
one_data (Field f) Free x y form fa fb e = absurd (differ 2 0 refl form)
one_data (Field f) (Octet p) x y form fa fb e = absurd (differ 2 1 refl form)
one_data (Field f) (Field g) x y form fa fb e =
    let high : ℕ → ℕ = λ n. n / 256 % 256 in
    let low : ℕ → ℕ = λ n. n % 256 in
    let first = one_octet (high f) (high g) (digits_of (low f) x) (digits_of (low g) y) (omega arith) (omega arith)
    (append_cancel_left (codes " with data ") (digits_of (high f) (digits_of (low f) x)) (digits_of (high g) (digits_of (low g) y)) e) in
    let second = one_octet (low f) (low g) x y (omega arith) (omega arith) first.1 in
    (ap Field (let h = first.0 in let l = second.0 in omega (arith, h, l, fa, fb)), second.1)

-- ---- an error

pub record IsKnown (e : ErrorCode) : Type 0 where
  pub code : e.code < 2 ^ 64
  pub subcode : e.subcode < 2 ^ 64
  pub form : form_of e.fixed ≡ form_by e.code e.subcode
  pub fits : Fits e.fixed

one_error : (e f : ErrorCode) (x y : List ℕ) → IsKnown e → IsKnown f → error_text e ++ x ≡ error_text f ++ y → (e ≡ f) × (x ≡ y)
one_error e f x y ke kf same =
    let whole = sym (append_assoc (code_text e.code e.subcode) (data_text e.fixed) x) ∙ same ∙ append_assoc (code_text f.code f.subcode) (data_text f.fixed) y in
    let parts = one_code_front e.code e.subcode f.code f.subcode (data_text e.fixed ++ x) (data_text f.fixed ++ y) ke.code ke.subcode kf.code kf.subcode whole in
    let form : form_of e.fixed ≡ form_of f.fixed =
    ke.form ∙ ap (λ (c : ℕ). form_by c e.subcode) parts.0 ∙ ap (λ (s : ℕ). form_by f.code s) parts.1.0 ∙ sym kf.form in
    let its = one_data e.fixed f.fixed x y form ke.fits kf.fits parts.1.1 in (
      ap (λ (c : ℕ). record { code = c; subcode = e.subcode; fixed = e.fixed }) parts.0
          ∙ ap (λ (s : ℕ). record { code = f.code; subcode = s; fixed = e.fixed }) parts.1.0
          ∙ ap (λ (d : FixedData). record { code = f.code; subcode = f.subcode; fixed = d }) its.0,
      its.1,
    )

-- ---- errors, and what is said of them

abbrev pub sent : List ℕ → List ℕ
sent t = codes " sent" ++ t

abbrev pub or : List ℕ
or = codes " or "

one_more : (xs ys : List ErrorCode) (t u : List ℕ) → AllByRecursion IsKnown xs → AllByRecursion IsKnown ys
    → more_errors or xs ++ sent t ≡ more_errors or ys ++ sent u → (xs ≡ ys) × (t ≡ u)
one_more [] [] t u kx ky e = (refl, append_cancel_left (codes " sent") t u e)
one_more [] (f ∷ []) t u kx ky e = absurd (differ 115 111 refl (ap (λ (l : List ℕ). slice_index l 1) e))
one_more [] (f ∷ g ∷ ys) t u kx ky e = absurd (differ 32 44 refl (ap (head_of 0) e))
one_more (x ∷ []) [] t u kx ky e = absurd (differ 111 115 refl (ap (λ (l : List ℕ). slice_index l 1) e))
one_more (x ∷ []) (f ∷ []) t u kx ky e =
    let both = one_error x f (sent t) (sent u) kx.0 ky.0 (append_cancel_left or (error_text x ++ sent t) (error_text f ++ sent u) e) in
    (ap (λ (z : ErrorCode). z ∷ []) both.0, append_cancel_left (codes " sent") t u both.1)
one_more (x ∷ []) (f ∷ g ∷ ys) t u kx ky e = absurd (differ 32 44 refl (ap (head_of 0) e))
one_more (x ∷ z ∷ xs) [] t u kx ky e = absurd (differ 44 32 refl (ap (head_of 0) e))
one_more (x ∷ z ∷ xs) (f ∷ []) t u kx ky e = absurd (differ 44 32 refl (ap (head_of 0) e))
one_more (x ∷ z ∷ xs) (f ∷ g ∷ ys) t u kx ky e =
    let m = more_errors or (z ∷ xs) in
    let n = more_errors or (g ∷ ys) in
    let both = sym (append_assoc (error_text x) m (sent t)) ∙ append_cancel_left (codes ", ") ((error_text x ++ m) ++ sent t) ((error_text f ++ n) ++ sent u) e
    ∙ append_assoc (error_text f) n (sent u) in
    let first = one_error x f (m ++ sent t) (n ++ sent u) kx.0 ky.0 both in
    let rest = one_more (z ∷ xs) (g ∷ ys) t u kx.1 ky.1 first.1 in
    (ap (λ (w : ErrorCode). w ∷ z ∷ xs) first.0 ∙ ap (λ (ws : List ErrorCode). f ∷ ws) rest.0, rest.1)

-- a text begins with the code of its first error
pub first_spread : (f : ErrorCode) (ys : List ErrorCode) (u : List ℕ)
    → errors_text or (f ∷ ys) ++ u ≡ decimal f.code ++ behind_code f.code f.subcode (data_text f.fixed ++ (more_errors or ys ++ u))
first_spread f ys u =
    append_assoc (error_text f) (more_errors or ys) u
    ∙ append_assoc (code_text f.code f.subcode) (data_text f.fixed) (more_errors or ys ++ u)
    ∙ spread f.code f.subcode (data_text f.fixed ++ (more_errors or ys ++ u))

no_blank : (d x y : List ℕ) → lacks 32 d ≡ true → 32 ∷ x ≡ d ++ (47 ∷ y) → ⊥
no_blank [] x y lack e = differ 32 47 refl (ap (head_of 0) e)
no_blank (c ∷ d) x y lack e =
    both_ways (c == 32) (not-true (c == 32) (and_parts (not (c == 32)) (lacks 32 d) lack).0) (eq-eqb c 32 (sym (ap (head_of 0) e)))

not_none : (f : ErrorCode) (ys : List ErrorCode) (t u : List ℕ) → IsKnown f → sent t ≡ errors_text or (f ∷ ys) ++ sent u → ⊥
not_none f ys t u kf e =
    no_blank (decimal f.code) (codes "sent" ++ t) (decimal f.subcode ++ (codes " (" ++ (short_error_name f.code f.subcode ++ (codes ")" ++ (data_text f.fixed ++ (more_errors or ys ++ sent u))))))
    (decimal_lacks 32 f.code (lit< tt) kf.code) (e ∙ first_spread f ys (sent u))

pub one_errors : (xs ys : List ErrorCode) (t u : List ℕ) → AllByRecursion IsKnown xs → AllByRecursion IsKnown ys
    → errors_text or xs ++ sent t ≡ errors_text or ys ++ sent u → (xs ≡ ys) × (t ≡ u)
one_errors [] [] t u kx ky e = (refl, append_cancel_left (codes " sent") t u e)
one_errors [] (f ∷ ys) t u kx ky e = absurd (not_none f ys t u ky.0 e)
one_errors (x ∷ xs) [] t u kx ky e = absurd (not_none x xs u t kx.0 (sym e))
one_errors (x ∷ xs) (f ∷ ys) t u kx ky e =
    let m = more_errors or xs in
    let n = more_errors or ys in
    let both = sym (append_assoc (error_text x) m (sent t)) ∙ e ∙ append_assoc (error_text f) n (sent u) in
    let first = one_error x f (m ++ sent t) (n ++ sent u) kx.0 ky.0 both in
    let rest = one_more xs ys t u kx.1 ky.1 first.1 in
    (ap (λ (w : ErrorCode). w ∷ xs) first.0 ∙ ap (λ (ws : List ErrorCode). f ∷ ws) rest.0, rest.1)

-- ---- other texts

abbrev pub cease : List ℕ
cease = codes "6 (Cease) sent, any subcode [RFC 4271 6.7]"

pub not_cease : (xs : List ErrorCode) (t : List ℕ) → AllByRecursion IsKnown xs → cease ≡ errors_text or xs ++ sent t → ⊥
not_cease [] t kx e = differ 54 32 refl (ap (head_of 0) e)
not_cease (f ∷ xs) t kx e =
    let rest = behind_code f.code f.subcode (data_text f.fixed ++ (more_errors or xs ++ sent t)) in
    let split = one_front 47 cease (decimal f.code) [] rest refl (decimal_lacks 47 f.code (lit< tt) kx.0.code) refl refl (append-nil cease ∙ e ∙ first_spread f xs (sent t)) in
    let none : [] ≡ rest = split.1 in cc

abbrev every_rest : List ℕ
every_rest = codes " to 3/11 (UPDATE Message Error) sent [RFC 4271 6.3]"

abbrev pub every : List ℕ
every = codes "3/1 to 3/11 (UPDATE Message Error) sent [RFC 4271 6.3]"

pub not_every : (xs : List ErrorCode) (t : List ℕ) → AllByRecursion IsKnown xs → every ≡ errors_text or xs ++ sent t → ⊥
not_every [] t kx e = differ 51 32 refl (ap (head_of 0) e)
not_every (f ∷ xs) t kx e =
    let named = codes " (" ++ (short_error_name f.code f.subcode ++ (codes ")" ++ (data_text f.fixed ++ (more_errors or xs ++ sent t)))) in
    let whole : codes "3" ++ (codes "/1" ++ every_rest) ≡ decimal f.code ++ (codes "/" ++ (decimal f.subcode ++ named)) = e ∙ first_spread f xs (sent t) in
    let first = one_front 47 (codes "3") (decimal f.code) (codes "/1" ++ every_rest) (codes "/" ++ (decimal f.subcode ++ named)) refl (decimal_lacks 47 f.code (lit< tt) kx.0.code) refl refl whole in
    let second = one_front 32 (codes "1") (decimal f.subcode) every_rest named refl (decimal_lacks 32 f.subcode (lit< tt) kx.0.subcode) refl refl
    (append_cancel_left (codes "/") (codes "1" ++ every_rest) (decimal f.subcode ++ named) first.1) in
    differ 116 40 refl (ap (λ (l : List ℕ). slice_index l 1) second.1)
