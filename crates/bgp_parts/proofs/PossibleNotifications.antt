-- What is possible case by case is what is possible at some second, with some data.
use Rattle.std.proofs.Common.{◌≡◌, ◌≤◌, ◌<◌, ◌↔◌, ◌∷◌, ◌∙◌, ℕ, Bool, true, false, not, IsTrue, MatchBool, List, [], Option, None, Some, inl, inr, refl, sym, subst, arith}
use Rattle.std.specs.Prelude.{IsNone, IsSome, IsSomeAnd}
use Rattle.byteorder.specs.Endian.{big_bytes}
use Rattle.bgp_wire.specs.declared.header.HeaderFaults.{HeaderFaults}
use Rattle.bgp_wire.specs.Verdict.{Names as NamesHeaderError, IsEmpty as HasNoHeaderError}
use Rattle.bgp_open.specs.declared.subcodes.OpenSubcodes.{OpenSubcodes}
use Rattle.bgp_open.specs.OpenSubcodes.{Names as NamesOpenError, IsEmpty as HasNoOpenError}
use Rattle.bgp_update.specs.Subcodes.{HasSubcode}
use Rattle.bgp_open.specs.Notification.{IsNotification}
use Rattle.bgp_reason.specs.declared.kinds.FsmErrors.{FsmErrors}
use Rattle.bgp_reason.specs.declared.kinds.Possible.{Possible}
use Rattle.bgp_reason.specs.Possible.{IsNotified, HasFsmError}
use Rattle.bgp_parts.specs.declared.notification.NotificationPart.{NotificationPart}
use Rattle.bgp_parts.specs.declared.notification.NotificationPart.TheVariants.{Subcode, Data}
use Rattle.bgp_parts.specs.NotificationWords.{HasHeaderSubcode, HasOpenSubcode, HasSomeFsmError, IsOfCode, IsOfSubcode, IsOfData}
use Rattle.bgp_parts.specs.NotificationParts.{MayTell, MayName, IsUnlike, IsPart, IsEarly, IsSecondPart, ResembleNone, PossibleLacksNothing}

-- ---- seconds

some_second : (hold : Option ℕ) → IsSome hold → (second : ℕ) × IsSomeAnd hold (λ from. from ≤ second)
some_second None none = absurd (cc)
some_second (Some from) some = (from, omega arith)

is_some : (hold : Option ℕ) (second : ℕ) → IsSomeAnd hold (λ from. from ≤ second) → IsSome hold
is_some None second none = absurd none
is_some (Some from) second some = refl

not_early : (hold : Option ℕ) (second other : ℕ) → IsSomeAnd hold (λ from. from ≤ other)
    → ¬ IsSomeAnd hold (λ from. second < from) → IsSomeAnd hold (λ from. from ≤ second)
not_early None second other none early = none
not_early (Some from) second other some early = omega arith

is_early : (hold : Option ℕ) (second : ℕ) → IsSomeAnd hold (λ from. second < from)
    → ¬ IsSomeAnd hold (λ from. from ≤ second)
is_early None second none some = none
is_early (Some from) second early some = omega arith

pub told_at_some_second : (possible : Possible) (code subcode : ℕ) (detail : List ℕ)
    → IsOfData possible code subcode detail → MayTell possible code subcode detail
told_at_some_second possible code subcode detail told = elim told [
  | inl header ↦ (0, inl header)
  | inr more ↦ elim more [
    | inl open_ ↦ (0, inr (inl open_))
    | inr more2 ↦ elim more2 [
      | inl update ↦ (0, inr (inr (inl update)))
      | inr more3 ↦ elim more3 [
        | inl hold ↦ (let (second, from) = some_second possible.hold_timer_expired hold.2 in
            (second, inr (inr (inr (inl (hold.0, hold.1, from))))))
        | inr more4 ↦ elim more4 [
          | inl fsm ↦ (0, inr (inr (inr (inr (inl fsm)))))
          | inr more5 ↦ (0, inr (inr (inr (inr (inr more5)))))
        ]
      ]
    ]
  ]
]

told_at : (possible : Possible) (second code subcode : ℕ) (detail : List ℕ)
    → IsNotified possible second code subcode detail → IsOfData possible code subcode detail
told_at possible second code subcode detail told = elim told [
  | inl header ↦ inl header
  | inr more ↦ elim more [
    | inl open_ ↦ inr (inl open_)
    | inr more2 ↦ elim more2 [
      | inl update ↦ inr (inr (inl update))
      | inr more3 ↦ elim more3 [
        | inl hold ↦ inr (inr (inr (inl (hold.0, hold.1, is_some possible.hold_timer_expired second hold.2))))
        | inr more4 ↦ inr (inr (inr (inr more4)))
      ]
    ]
  ]
]

pub told_of : (possible : Possible) (code subcode : ℕ) (detail : List ℕ)
    → MayTell possible code subcode detail → IsOfData possible code subcode detail
told_of possible code subcode detail (second, told) = told_at possible second code subcode detail told

-- ---- data

length_data : (count : Option ℕ) → IsSome count
    → (detail : List ℕ) × IsSomeAnd count (λ n. detail ≡ big_bytes 2 n)
length_data None none = absurd (cc)
length_data (Some n) some = (big_bytes 2 n, refl)

kind_data : (kind : Option ℕ) → IsSome kind
    → (detail : List ℕ) × IsSomeAnd kind (λ n. detail ≡ big_bytes 1 n)
kind_data None none = absurd (cc)
kind_data (Some n) some = (big_bytes 1 n, refl)

of_length : (count : Option ℕ) (detail : List ℕ) → IsSomeAnd count (λ n. detail ≡ big_bytes 2 n) → IsSome count
of_length None detail none = absurd none
of_length (Some n) detail some = refl

of_kind : (kind : Option ℕ) (detail : List ℕ) → IsSomeAnd kind (λ n. detail ≡ big_bytes 1 n) → IsSome kind
of_kind None detail none = absurd none
of_kind (Some n) detail some = refl

header_data : (errors : HeaderFaults) (subcode : ℕ) → HasHeaderSubcode errors subcode
    → (detail : List ℕ) × NamesHeaderError errors subcode detail
header_data errors subcode has = elim has [
  | inl marker ↦ ([], inl marker)
  | inr more ↦ elim more [
    | inl count ↦ (let (detail, is) = length_data errors.length count.1 in (detail, inr (inl (count.0, is))))
    | inr kind ↦ (let (detail, is) = kind_data errors.kind kind.1 in (detail, inr (inr (kind.0, is))))
  ]
]

of_header_data : (errors : HeaderFaults) (subcode : ℕ) (detail : List ℕ)
    → NamesHeaderError errors subcode detail → HasHeaderSubcode errors subcode
of_header_data errors subcode detail names = elim names [
  | inl marker ↦ inl marker
  | inr more ↦ elim more [
    | inl count ↦ inr (inl (count.0, of_length errors.length detail count.1))
    | inr kind ↦ inr (inr (kind.0, of_kind errors.kind detail kind.1))
  ]
]

open_data : (errors : OpenSubcodes) (subcode : ℕ) → HasOpenSubcode errors subcode
    → (detail : List ℕ) × NamesOpenError errors subcode detail
open_data errors subcode has = elim has [
  | inl unspecific ↦ ([], inl unspecific)
  | inr more ↦ elim more [
    | inl version ↦ (big_bytes 2 4, inr (inl (version.0, refl, version.1)))
    | inr more2 ↦ ([], inr (inr more2))
  ]
]

of_open_data : (errors : OpenSubcodes) (subcode : ℕ) (detail : List ℕ)
    → NamesOpenError errors subcode detail → HasOpenSubcode errors subcode
of_open_data errors subcode detail names = elim names [
  | inl unspecific ↦ inl unspecific
  | inr more ↦ elim more [
    | inl version ↦ inr (inl (version.0, version.2))
    | inr more2 ↦ inr (inr more2)
  ]
]

some_data : (possible : Possible) (code subcode : ℕ) → IsOfSubcode possible code subcode
    → (detail : List ℕ) × IsOfData possible code subcode detail
some_data possible code subcode has = elim has [
  | inl header ↦ (let (detail, names) = header_data possible.header_errors subcode header.1 in
      (detail, inl (header.0, names)))
  | inr more ↦ elim more [
    | inl open_ ↦ (let (detail, names) = open_data possible.open_errors subcode open_.1 in
        (detail, inr (inl (open_.0, names))))
    | inr more2 ↦ ([], inr (inr more2))
  ]
]

of_data : (possible : Possible) (code subcode : ℕ) (detail : List ℕ) → IsOfData possible code subcode detail
    → IsOfSubcode possible code subcode
of_data possible code subcode detail told = elim told [
  | inl header ↦ inl (header.0, of_header_data possible.header_errors subcode detail header.1)
  | inr more ↦ elim more [
    | inl open_ ↦ inr (inl (open_.0, of_open_data possible.open_errors subcode detail open_.1))
    | inr more2 ↦ inr (inr more2)
  ]
]

pub named_with_some_data : (possible : Possible) (code subcode : ℕ) → IsOfSubcode possible code subcode
    → MayName possible code subcode
named_with_some_data possible code subcode has =
    let (detail, told) = some_data possible code subcode has in
    (detail, told_at_some_second possible code subcode detail told)

pub named_of : (possible : Possible) (code subcode : ℕ) → MayName possible code subcode
    → IsOfSubcode possible code subcode
named_of possible code subcode (detail, may) =
    of_data possible code subcode detail (told_of possible code subcode detail may)

-- ---- codes

some_fsm_error : (errors : FsmErrors) (subcode : ℕ) → HasFsmError errors subcode → HasSomeFsmError errors
some_fsm_error errors subcode has = elim has [
  | inl unspecified ↦ inl unspecified.1
  | inr more ↦ elim more [
    | inl open_sent ↦ inr (inl open_sent.1)
    | inr more2 ↦ elim more2 [
      | inl open_confirm ↦ inr (inr (inl open_confirm.1))
      | inr established ↦ inr (inr (inr established.1))
    ]
  ]
]

fsm_subcode : (errors : FsmErrors) → HasSomeFsmError errors → (subcode : ℕ) × HasFsmError errors subcode
fsm_subcode errors has = elim has [
  | inl unspecified ↦ (0, inl (refl, unspecified))
  | inr more ↦ elim more [
    | inl open_sent ↦ (1, inr (inl (refl, open_sent)))
    | inr more2 ↦ elim more2 [
      | inl open_confirm ↦ (2, inr (inr (inl (refl, open_confirm))))
      | inr established ↦ (3, inr (inr (inr (refl, established))))
    ]
  ]
]

pub never : false ≡ true → ⊥
never e = absurd cc

-- a set that may be empty tells whether one of its code is possible
header_code : (possible : Possible) (code : ℕ) → code ≡ 1 → IsOfCode possible code
    → ¬ HasNoHeaderError possible.header_errors
header_code possible code is has = elim has [
  | inl header ↦ header.1
  | inr more ↦ absurd (elim more [
    | inl open_ ↦ omega (arith, is, open_.0)
    | inr more2 ↦ elim more2 [
      | inl update ↦ omega (arith, is, update.0)
      | inr more3 ↦ elim more3 [
        | inl hold ↦ omega (arith, is, hold.0)
        | inr more4 ↦ elim more4 [
          | inl fsm ↦ omega (arith, is, fsm.0)
          | inr more5 ↦ elim more5 [
            | inl cease ↦ omega (arith, is, cease.0)
            | inr send ↦ omega (arith, is, send.0)
          ]
        ]
      ]
    ]
  ])
]

open_code : (possible : Possible) (code : ℕ) → code ≡ 2 → IsOfCode possible code
    → ¬ HasNoOpenError possible.open_errors
open_code possible code is has = elim has [
  | inl header ↦ absurd (omega (arith, is, header.0))
  | inr more ↦ elim more [
    | inl open_ ↦ open_.1
    | inr more2 ↦ absurd (elim more2 [
      | inl update ↦ omega (arith, is, update.0)
      | inr more3 ↦ elim more3 [
        | inl hold ↦ omega (arith, is, hold.0)
        | inr more4 ↦ elim more4 [
          | inl fsm ↦ omega (arith, is, fsm.0)
          | inr more5 ↦ elim more5 [
            | inl cease ↦ omega (arith, is, cease.0)
            | inr send ↦ omega (arith, is, send.0)
          ]
        ]
      ]
    ])
  ]
]

update_code : (possible : Possible) (code : ℕ) → code ≡ 3 → IsOfCode possible code
    → (subcode : ℕ) × HasSubcode possible.update_errors subcode
update_code possible code is has = elim has [
  | inl header ↦ absurd (omega (arith, is, header.0))
  | inr more ↦ elim more [
    | inl open_ ↦ absurd (omega (arith, is, open_.0))
    | inr more2 ↦ elim more2 [
      | inl update ↦ update.1
      | inr more3 ↦ absurd (elim more3 [
        | inl hold ↦ omega (arith, is, hold.0)
        | inr more4 ↦ elim more4 [
          | inl fsm ↦ omega (arith, is, fsm.0)
          | inr more5 ↦ elim more5 [
            | inl cease ↦ omega (arith, is, cease.0)
            | inr send ↦ omega (arith, is, send.0)
          ]
        ]
      ])
    ]
  ]
]

pub has_header_errors : (possible : Possible) (code : ℕ) (empty : Bool) → code ≡ 1
    → IsTrue empty ↔ HasNoHeaderError possible.header_errors → IsTrue (not empty) ↔ IsOfCode possible code
has_header_errors possible code true is none =
    (λ e. absurd (never e), λ has. absurd (header_code possible code is has (none.0 refl)))
has_header_errors possible code false is none =
    (λ _. inl (is, λ h. never (none.1 h)), λ _. refl)

pub has_open_errors : (possible : Possible) (code : ℕ) (empty : Bool) → code ≡ 2
    → IsTrue empty ↔ HasNoOpenError possible.open_errors → IsTrue (not empty) ↔ IsOfCode possible code
has_open_errors possible code true is none =
    (λ e. absurd (never e), λ has. absurd (open_code possible code is has (none.0 refl)))
has_open_errors possible code false is none =
    (λ _. inr (inl (is, λ h. never (none.1 h))), λ _. refl)

pub has_update_errors : (possible : Possible) (code : ℕ) (empty : Bool) → code ≡ 3
    → MatchBool empty ((n : ℕ) → ¬ HasSubcode possible.update_errors n) ((n : ℕ) × HasSubcode possible.update_errors n)
    → IsTrue (not empty) ↔ IsOfCode possible code
has_update_errors possible code true is none =
    (λ e. absurd (never e), λ has. absurd (let some = update_code possible code is has in none some.0 some.1))
has_update_errors possible code false is some = (λ _. inr (inr (inl (is, some))), λ _. refl)

of_code : (possible : Possible) (code subcode : ℕ) (detail : List ℕ) → IsOfData possible code subcode detail
    → IsOfCode possible code
of_code possible code subcode detail told = elim told [
  | inl header ↦ inl (header.0, λ none. none subcode detail header.1)
  | inr more ↦ elim more [
    | inl open_ ↦ inr (inl (open_.0, λ none. none subcode detail open_.1))
    | inr more2 ↦ elim more2 [
      | inl update ↦ inr (inr (inl (update.0, (subcode, update.1))))
      | inr more3 ↦ elim more3 [
        | inl hold ↦ inr (inr (inr (inl (hold.0, hold.2))))
        | inr more4 ↦ elim more4 [
          | inl fsm ↦ inr (inr (inr (inr (inl (fsm.0, some_fsm_error possible.fsm_errors subcode fsm.1)))))
          | inr more5 ↦ elim more5 [
            | inl cease ↦ inr (inr (inr (inr (inr (inl cease)))))
            | inr send ↦ inr (inr (inr (inr (inr (inr (send.0, send.2))))))
          ]
        ]
      ]
    ]
  ]
]

pub unlike : (possible : Possible) (code : ℕ) → (¬ IsOfCode possible code) → IsUnlike possible code
unlike possible code none subcode (detail, may) =
    none (of_code possible code subcode detail (told_of possible code subcode detail may))

told_unlike : (possible : Possible) (code subcode : ℕ) (detail : List ℕ) → IsUnlike possible code
    → ¬ IsOfData possible code subcode detail
told_unlike possible code subcode detail none told =
    none subcode (detail, told_at_some_second possible code subcode detail told)

pub like : (possible : Possible) (code : ℕ) → IsOfCode possible code → ¬ IsUnlike possible code
like possible code has none = elim has [
  | inl header ↦ header.1 (λ subcode detail names. told_unlike possible code subcode detail none (inl (header.0, names)))
  | inr more ↦ elim more [
    | inl open_ ↦ open_.1 (λ subcode detail names. told_unlike possible code subcode detail none (inr (inl (open_.0, names))))
    | inr more2 ↦ elim more2 [
      | inl update ↦ told_unlike possible code update.1.0 [] none (inr (inr (inl (update.0, update.1.1))))
      | inr more3 ↦ elim more3 [
        | inl hold ↦ told_unlike possible code 0 [] none (inr (inr (inr (inl (hold.0, refl, hold.1)))))
        | inr more4 ↦ elim more4 [
          | inl fsm ↦ (let (subcode, has) = fsm_subcode possible.fsm_errors fsm.1 in
              told_unlike possible code subcode [] none (inr (inr (inr (inr (inl (fsm.0, has)))))))
          | inr more5 ↦ elim more5 [
            | inl cease ↦ told_unlike possible code 0 [] none (inr (inr (inr (inr (inr (inl cease))))))
            | inr send ↦ told_unlike possible code 0 [] none (inr (inr (inr (inr (inr (inr (send.0, refl, send.1)))))))
          ]
        ]
      ]
    ]
  ]
]

-- ---- the law

-- what is possible at some second is so at this one, where it isn't early
on_time : (possible : Possible) (second code subcode : ℕ) (detail : List ℕ)
    → MayTell possible code subcode detail → (¬ IsEarly possible second code)
    → IsNotified possible second code subcode detail
on_time possible second code subcode detail (other, told) early = elim told [
  | inl header ↦ inl header
  | inr more ↦ elim more [
    | inl open_ ↦ inr (inl open_)
    | inr more2 ↦ elim more2 [
      | inl update ↦ inr (inr (inl update))
      | inr more3 ↦ elim more3 [
        | inl hold ↦ inr (inr (inr (inl (
          hold.0,
          hold.1,
          not_early possible.hold_timer_expired second other hold.2 (λ later. early (hold.0, later)),
        ))))
        | inr more4 ↦ inr (inr (inr (inr more4)))
      ]
    ]
  ]
]

-- what is possible at this second isn't early
never_early : (possible : Possible) (second code subcode : ℕ) (detail : List ℕ)
    → IsNotified possible second code subcode detail → ¬ IsEarly possible second code
never_early possible second code subcode detail told (is_4, later) = elim told [
  | inl header ↦ omega (arith, is_4, header.0)
  | inr more ↦ elim more [
    | inl open_ ↦ omega (arith, is_4, open_.0)
    | inr more2 ↦ elim more2 [
      | inl update ↦ omega (arith, is_4, update.0)
      | inr more3 ↦ elim more3 [
        | inl hold ↦ is_early possible.hold_timer_expired second later hold.2
        | inr more4 ↦ elim more4 [
          | inl fsm ↦ omega (arith, is_4, fsm.0)
          | inr more5 ↦ elim more5 [
            | inl cease ↦ omega (arith, is_4, cease.0)
            | inr send ↦ omega (arith, is_4, send.0)
          ]
        ]
      ]
    ]
  ]
]

-- octets are one NOTIFICATION
same_code : (octets : List ℕ) (code subcode : ℕ) (detail : List ℕ) (other_code other : ℕ) (others : List ℕ)
    → IsNotification octets code subcode detail → IsNotification octets other_code other others
    → (P : ℕ → ℕ → List ℕ → Type 0) → P other_code other others → P code subcode detail
same_code octets code subcode detail other_code other others is is_other P holds =
    let same : other_code ∷ other ∷ others ≡ code ∷ subcode ∷ detail = sym is_other.body ∙ is.body in
    let one : other_code ≡ code = cc in
    let two : other ≡ subcode = cc in
    let three : others ≡ detail = cc in
    subst (λ (c : ℕ). P c subcode detail) one
    (subst (λ (s : ℕ). P other_code s detail) two (subst (λ (d : List ℕ). P other_code other d) three holds))

-- octets that are a NOTIFICATION of a code that isn't possible are none of one that is
pub resemble_none : (possible : Possible) (octets : List ℕ) (code subcode : ℕ) (detail : List ℕ)
    → IsNotification octets code subcode detail → (¬ IsOfCode possible code) → ResembleNone possible octets
resemble_none possible octets code subcode detail is none other_code other others is_other =
    same_code octets other_code other others code subcode detail is_other is
    (λ c s d. IsUnlike possible c) (unlike possible code none)

no_part : (possible : Possible) (code subcode : ℕ) (detail : List ℕ) (part : Option NotificationPart)
    → IsPart possible code subcode detail part → IsNone part → MayTell possible code subcode detail
no_part possible code subcode detail None is none = is
no_part possible code subcode detail (Some part) is none = absurd (cc)

part_is_none : (possible : Possible) (code subcode : ℕ) (detail : List ℕ) (part : Option NotificationPart)
    → IsPart possible code subcode detail part → MayTell possible code subcode detail → IsNone part
part_is_none possible code subcode detail None is may = refl
part_is_none possible code subcode detail (Some (Subcode sent)) is may = absurd (is.1 (detail, may))
part_is_none possible code subcode detail (Some (Data sent)) is may = absurd (is.2 may)

no_second_part : (possible : Possible) (second code : ℕ) (early : Option ℕ)
    → IsSecondPart possible second code early → IsNone early → ¬ IsEarly possible second code
no_second_part possible second code None is none = is
no_second_part possible second code (Some sent) is none = absurd (cc)

second_part_is_none : (possible : Possible) (second code : ℕ) (early : Option ℕ)
    → IsSecondPart possible second code early → (¬ IsEarly possible second code) → IsNone early
second_part_is_none possible second code None is not = refl
second_part_is_none possible second code (Some sent) is not = absurd (not is.1)

pub possible_lacks_nothing : PossibleLacksNothing
possible_lacks_nothing = record {
  parts = λ possible second octets told are. (
    λ none. (
      are.code,
      are.subcode,
      are.detail,
      are.is,
      on_time possible second are.code are.subcode are.detail
          (no_part possible are.code are.subcode are.detail told.part are.part none.0)
          (no_second_part possible second are.code told.early are.second_part none.1),
    ),
    λ tells.
        let now : IsNotified possible second are.code are.subcode are.detail =
        same_code octets are.code are.subcode are.detail tells.0 tells.1 tells.2 are.is tells.3
        (IsNotified possible second) tells.4 in (
          part_is_none possible are.code are.subcode are.detail told.part are.part (second, now),
          second_part_is_none possible second are.code told.early are.second_part
              (never_early possible second are.code are.subcode are.detail now),
        ),
  );
  none = λ possible second octets unlike tells.
      unlike tells.0 tells.1 tells.2 tells.3 tells.1 (tells.2, (second, tells.4));
}
