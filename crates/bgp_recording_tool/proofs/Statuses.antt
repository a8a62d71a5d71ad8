-- The status over several connections, one after another.
use Rattle.std.proofs.Common.{◌≡◌, ℕ, List, [], ◌∷◌, Bool, true, false, cond, nat_eq, ◌||◌, arith}
use Rattle.bgp_recording_tool.specs.Told.{has_status, status_over, NoIsTold}

-- the status over connections by what is among theirs
abbrev pub ranked : Bool → Bool → Bool → Bool → Bool → Bool → ℕ
ranked five four one three two none = cond five 5 (cond four 4 (cond one 1 (cond three 3 (cond two 2 (cond none 0 0)))))

-- one status more: it is ranked with that over the others
ranked_alike : (b5 b4 b1 b3 b2 b0 t5 t4 t1 t3 t2 t0 : Bool)
    → ranked (t5 || b5) (t4 || b4) (t1 || b1) (t3 || b3) (t2 || b2) (t0 || b0)
    ≡ (let v = ranked b5 b4 b1 b3 b2 b0 in
    ranked (nat_eq v 5 || (t5 || false)) (nat_eq v 4 || (t4 || false)) (nat_eq v 1 || (t1 || false)) (nat_eq v 3 || (t3 || false)) (nat_eq v 2 || (t2 || false)) (nat_eq v 0 || (t0 || false)))
ranked_alike b5 b4 b1 b3 b2 b0 t5 t4 t1 t3 t2 t0 = grind arith

pub over_more : (status : ℕ) (statuses : List ℕ) → status_over (status ∷ statuses) ≡ status_over (status_over statuses ∷ status ∷ [])
over_more status statuses =
    ranked_alike (has_status statuses 5) (has_status statuses 4) (has_status statuses 1) (has_status statuses 3) (has_status statuses 2) (has_status statuses 0)
    (nat_eq status 5) (nat_eq status 4) (nat_eq status 1) (nat_eq status 3) (nat_eq status 2) (nat_eq status 0)

no_by : (b5 b4 b1 b3 b2 b0 : Bool) → ranked b5 b4 b1 b3 b2 b0 ≡ 1 → (b1 ≡ true) × (b5 ≡ false) × (b4 ≡ false)
no_by b5 b4 b1 b3 b2 b0 h = (grind arith, grind arith, grind arith)

by_no : (b5 b4 b1 b3 b2 b0 : Bool) → b1 ≡ true → b5 ≡ false → b4 ≡ false → ranked b5 b4 b1 b3 b2 b0 ≡ 1
by_no b5 b4 b1 b3 b2 b0 one five four = grind arith

pub no_is_told : NoIsTold
no_is_told statuses = (
  λ h.
      let parts = no_by (has_status statuses 5) (has_status statuses 4) (has_status statuses 1) (has_status statuses 3) (has_status statuses 2) (has_status statuses 0) h in
      record { no = parts.0; device = parts.1; memory = parts.2 },
  λ among. by_no (has_status statuses 5) (has_status statuses 4) (has_status statuses 1) (has_status statuses 3) (has_status statuses 2) (has_status statuses 0) among.no among.device among.memory,
)
