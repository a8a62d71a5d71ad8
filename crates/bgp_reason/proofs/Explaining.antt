-- What explains records, one after another: members, and what all of them have.
use Rattle.std.proofs.Common.{◌≡◌, List, [], ◌∷◌, ◌++◌, refl, sym, subst, append_assoc, append-nil}
use Rattle.bgp_prefix.specs.Shown.{ShownRecord}
use Rattle.bgp_open.specs.declared.config.Config.{Config}
use Rattle.bgp_machine.specs.Lists.{Each}
use Rattle.bgp_machine.specs.Owed.{CanBeMet, EachOwedCanBeMet}
use Rattle.bgp_machine.specs.Run.{Begins, Run, Silent}
use Rattle.bgp_machine.specs.State.{SessionState, fresh_state}
use Rattle.bgp_machine.proofs.JoinedRuns.{no_steps, run_joined}
use Rattle.bgp_judge.specs.Member.{Member, IsFree, fresh_member}
use Rattle.bgp_judge.specs.Next.{Next}
use Rattle.bgp_judge.specs.Stands.{Goes}
use Rattle.bgp_judge.specs.Told.{IsAsTold, told}
use Rattle.bgp_judge.proofs.OneRecordMore.{free_runs, goes_from, goes_to, next_met, runs_free}
use Rattle.bgp_judge.proofs.Standing.{can_go}
use Rattle.bgp_judge.proofs.Telling.{each_as_told}
use Rattle.bgp_reason.specs.Following.{MayFollow}

-- the records lead from one member to another
abbrev pub Leads : Config → Member → List ShownRecord → Member → Type 0
Leads config m [] last = m ≡ last
Leads config m (r ∷ rs) last = (n : Member) × Next config r m n × Leads config n rs last

-- the member explains the records
abbrev pub Explains : Config → List ShownRecord → Member → Type 0
Explains config records m = Leads config fresh_member records m

pub lead : (config : Config) (m : Member) (xs ys : List ShownRecord) (e : SessionState) → Goes config m (xs ++ ys) e
    → (n : Member) × Leads config m xs n × Goes config n ys e
lead config m [] ys e g = (m, refl, g)
lead config m (x ∷ xs) ys e g =
    let k = goes_from config x m (xs ++ ys) e g in
    let z = lead config k.0 xs ys e k.2 in
    (z.0, (k.0, k.1, z.1), z.2)

back : (config : Config) (m n : Member) (xs ys : List ShownRecord) (e : SessionState) → Leads config m xs n → Goes config n ys e
    → Goes config m (xs ++ ys) e
back config m n [] ys e p g = subst (λ (v : Member). Goes config v ys e) (sym p) g
back config m n (x ∷ xs) ys e p g = goes_to config x m p.0 (xs ++ ys) e p.1 (back config p.0 n xs ys e p.2 g)

leads_more : (config : Config) (m n : Member) (xs : List ShownRecord) (r : ShownRecord) (n2 : Member) → Leads config m xs n → Next config r n n2
    → Leads config m (xs ++ r ∷ []) n2
leads_more config m n [] r n2 l next = (n2, subst (λ (v : Member). Next config r v n2) (sym l) next, refl)
leads_more config m n (x ∷ xs) r n2 l next = (l.0, l.1, leads_more config l.0 n xs r n2 l.2 next)

-- ---- what may follow is what some member goes on by

leads_met : EachOwedCanBeMet → (config : Config) (m n : Member) (xs : List ShownRecord) → Leads config m xs n → Each (CanBeMet config m.link) m.wants
    → Each (CanBeMet config n.link) n.wants
leads_met law config m n [] p each = subst (λ (v : Member). Each (CanBeMet config v.link) v.wants) p each
leads_met law config m n (x ∷ xs) p each = leads_met law config p.0 n xs p.2 (next_met law config x m p.0 p.1 each)

pub explains_met : EachOwedCanBeMet → (config : Config) (records : List ShownRecord) (m : Member) → Explains config records m → Each (CanBeMet config m.link) m.wants
explains_met law config records m p = leads_met law config fresh_member m records p tt

pub follows_to : EachOwedCanBeMet → (config : Config) (records : List ShownRecord) (r : ShownRecord) (m m2 : Member) → Explains config records m
    → Next config r m m2 → MayFollow config records r
follows_to law config records r m m2 p n =
    let each = next_met law config r m m2 n (explains_met law config records m p) in
    let g = can_go config m2 each in
    let whole : Goes config fresh_member (records ++ (r ∷ g.0)) m2.state = back config fresh_member m records (r ∷ g.0) m2.state p (goes_to config r m m2 g.0 m2.state n g.1) in
    let run = free_runs config fresh_member (records ++ (r ∷ g.0)) m2.state (refl, refl) whole in
    (g.0, m2.state, subst (λ (v : List ShownRecord). Run config fresh_state v m2.state) (sym (append_assoc records (r ∷ []) g.0)) run)

pub follows_from : (config : Config) (records : List ShownRecord) (r : ShownRecord) → MayFollow config records r
    → (m : Member) × (m2 : Member) × Explains config records m × Next config r m m2
follows_from config records r begins =
    let rest = begins.0 in
    let e = begins.1 in
    let run : Run config fresh_state (records ++ (r ∷ rest)) e =
    subst (λ (v : List ShownRecord). Run config fresh_state v e) (append_assoc records (r ∷ []) rest) begins.2 in
    let z = lead config fresh_member records (r ∷ rest) e (runs_free config fresh_member (records ++ (r ∷ rest)) e (refl, refl) run) in
    let k = goes_from config r z.0 rest e z.2 in
    (z.0, k.0, z.1, k.1)

-- where records begin a run, a member explains them, and goes on with the rest
pub explained_from : (config : Config) (records : List ShownRecord) → Begins config records
    → (m : Member) × Explains config records m × ((rest : List ShownRecord) × (e : SessionState) × Goes config m rest e)
explained_from config records begins =
    let z = lead config fresh_member records begins.0 begins.1 (runs_free config fresh_member (records ++ begins.0) begins.1 (refl, refl) begins.2) in
    (z.0, z.1, (begins.0, begins.1, z.2))

-- ---- what each member has that explains records

along : (config : Config) (P : List ShownRecord → Member → Type 0)
    → ((done : List ShownRecord) (r : ShownRecord) (m n : Member) → Explains config done m → P done m → Next config r m n → P (done ++ r ∷ []) n)
    → (done rest : List ShownRecord) (m last : Member) → Explains config done m → P done m → Leads config m rest last → P (done ++ rest) last
along config P step done [] m last ex p l =
    subst (λ (v : Member). P (done ++ []) v) l (subst (λ (v : List ShownRecord). P v m) (sym (append-nil done)) p)
along config P step done (r ∷ rest) m last ex p l =
    subst (λ (v : List ShownRecord). P v last) (append_assoc done (r ∷ []) rest)
    (along config P step (done ++ r ∷ []) rest l.0 last (leads_more config fresh_member m done r l.0 ex l.1) (step done r m l.0 ex p l.1) l.2)

pub each_explained : (config : Config) (P : List ShownRecord → Member → Type 0) → P [] fresh_member
    → ((done : List ShownRecord) (r : ShownRecord) (m n : Member) → Explains config done m → P done m → Next config r m n → P (done ++ r ∷ []) n)
    → (records : List ShownRecord) (m : Member) → Explains config records m → P records m
each_explained config P base step records m e = along config P step [] records fresh_member m refl base e

-- ---- one that has nothing left to show is the end of a run

pub free_run : (config : Config) (records : List ShownRecord) (m : Member) → Explains config records m → IsFree m → Run config fresh_state records m.state
free_run config records m ex free =
    subst (λ (v : List ShownRecord). Run config fresh_state v m.state) (append-nil records)
    (free_runs config fresh_member (records ++ []) m.state (refl, refl)
    (back config fresh_member m records [] m.state ex (runs_free config m [] m.state free (no_steps config m.state))))

-- and the state that silence leads to from there is as the records tell
pub before_told : (config : Config) (records : List ShownRecord) (m : Member) (before : SessionState) → Explains config records m → IsFree m
    → Silent config m.state before → IsAsTold config (told records) before
before_told config records m before ex free silent =
    each_as_told config records before (subst (λ (v : List ShownRecord). Run config fresh_state v before) (append-nil records)
    (run_joined config fresh_state m.state before records [] (free_run config records m ex free) silent))
