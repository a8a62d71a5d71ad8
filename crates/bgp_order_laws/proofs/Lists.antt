-- Lists of ends: of two orders with the same ends the lists are one.
use Rattle.std.proofs.Common.{◌≡◌, ◌≢◌, List, [], ◌∷◌, inl, inr, refl, subst}
use Rattle.bgp_prefix.specs.Shown.{ShownRecord}
use Rattle.bgp_open.specs.declared.config.Config.{Config}
use Rattle.bgp_machine.specs.Lists.{Each, Has}
use Rattle.bgp_machine.specs.Run.{End, IsComplete}
use Rattle.bgp_judge.specs.Ends.{ListsEnds}
use Rattle.bgp_judge.specs.Verdict.{HasOneVerdict, HasVerdict, Yes}

-- what each element has one that is there has
pub of_each : (P : End → Type 0) (xs : List End) (x : End) → Each P xs → Has (λ y. y ≡ x) xs → P x
of_each P [] x each has = absurd has
of_each P (y ∷ ys) x each (inl is) = subst P is each.0
of_each P (y ∷ ys) x each (inr has) = of_each P ys x each.1 has

-- and each has it, if each one that is there does
to_each : (P : End → Type 0) (xs : List End) → ((x : End) → Has (λ y. y ≡ x) xs → P x) → Each P xs
to_each P [] all = tt
to_each P (x ∷ xs) all = (all x (inl refl), to_each P xs (λ y has. all y (inr has)))

-- the first of some
pub first_of : (xs : List End) → xs ≢ [] → (x : End) × Has (λ y. y ≡ x) xs
first_of [] some = absurd (some refl)
first_of (x ∷ xs) some = (x, inl refl)

yes_is : (xs ys : List End) → Yes xs ≡ Yes ys → xs ≡ ys
yes_is xs ys e = cc

pub one_list : HasOneVerdict → (config : Config) (records others : List ShownRecord) (xs ys : List End) → HasVerdict config records (Yes xs) → HasVerdict config others (Yes ys)
    → ((e : End) → Has (λ x. x ≡ e) xs → Has (λ x. x ≡ e) ys) → ((e : End) → Has (λ x. x ≡ e) ys → Has (λ x. x ≡ e) xs) → xs ≡ ys
one_list law config records others xs ys is also there back =
    let lists : ListsEnds config records ys = record {
      each = to_each (IsComplete config records) ys (λ e has. of_each (IsComplete config records) xs e is.1.each (back e has));
      every = λ e complete. there e (is.1.every e complete);
      none_twice = also.1.none_twice;
      in_order = also.1.in_order;
    } in
    yes_is xs ys (law config records (Yes xs) (Yes ys) is (also.0, lists))
