-- An UPDATE has its fields in one way.
use Rattle.std.proofs.Common.{◌≡◌, ℕ, List, ◌++◌, length, take, drop, sym, ap, ap₂, ◌∙◌, subst}
use Rattle.std.proofs.Math.Seq.{take-append_seam, drop-append_seam}
use Rattle.byteorder.specs.Endian.{big_bytes, big_number}
use Rattle.byteorder.specs.Numbers.{big_number-reads_back}
use Rattle.bgp_attr.specs.Message.{body_of}
use Rattle.bgp_update.specs.Counted.{IsCounted, LacksCounted}
use Rattle.bgp_update.specs.Sections.{Sections, IsUpdate, IsMalformed}

record Same (field other rest more : List ℕ) : Type 0 where
  same : field ≡ other
  after : rest ≡ more

one_counted : (octets field other rest more : List ℕ) → IsCounted octets field rest → IsCounted octets other more → Same field other rest more
one_counted octets field other rest more one two =
    let e = sym one.spelled ∙ two.spelled in
    let n : length field ≡ length other =
    sym (big_number-reads_back 2 (length field) (field ++ rest) one.fits) ∙ ap (big_number 2) e ∙ big_number-reads_back 2 (length other) (other ++ more) two.fits in
    let tails : field ++ rest ≡ other ++ more = ap (drop 2) e in
    record {
      same = sym (take-append_seam field rest) ∙ ap₂ take n tails ∙ take-append_seam other more;
      after = sym (drop-append_seam field rest) ∙ ap₂ drop n tails ∙ drop-append_seam other more;
    }

-- the two fields that have a length
pub first : (octets : List ℕ) (s : Sections) → IsUpdate octets s → IsCounted (body_of octets) s.withdrawn (big_bytes 2 (length s.attributes) ++ (s.attributes ++ s.nlri))
first octets s is = record { spelled = is.body; fits = is.withdrawn_length }

second : (octets : List ℕ) (s : Sections) → IsUpdate octets s → IsCounted (big_bytes 2 (length s.attributes) ++ (s.attributes ++ s.nlri)) s.attributes s.nlri
second octets s is = record { spelled = λ _. big_bytes 2 (length s.attributes) ++ (s.attributes ++ s.nlri); fits = is.attributes_length }

pub one_split : (octets : List ℕ) (s t : Sections) → IsUpdate octets s → IsUpdate octets t → s ≡ t
one_split octets s t one two =
    let outer = one_counted _ _ _ _ _ (first octets s one) (first octets t two) in
    let inner = one_counted _ _ _ _ _ (second octets s one) (subst (λ (rest : List ℕ). IsCounted rest t.attributes t.nlri) (sym outer.after) (second octets t two)) in
    λ i. record { withdrawn = outer.same i; attributes = inner.same i; nlri = inner.after i }

-- the second field is missing
pub no_second : (octets body withdrawn rest : List ℕ) → body ≡ body_of octets → IsCounted body withdrawn rest → LacksCounted rest → IsMalformed octets
no_second octets body withdrawn rest is one lacks s update =
    let outer = one_counted _ _ _ _ _ (first octets s update) (subst (λ (all : List ℕ). IsCounted all withdrawn rest) is one) in
    lacks s.attributes s.nlri (subst (λ (all : List ℕ). IsCounted all s.attributes s.nlri) outer.after (second octets s update))
