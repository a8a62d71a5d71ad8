use Rattle.std.proofs.Common.{◌≡◌, sym, List, [], ◌∷◌, Option, None, Some, MatchOption}
use Rattle.std.proofs.Common.{option_to_list}
use Rattle.bgp_speak_tool.proofs.speaking.speak_as.Goals as goal

-- an option's slice has what the option holds
held : {X : Type 0} (option : Option X) (items : List X)
    → MatchOption option (items ≡ []) (λ (x : X). items ≡ x ∷ [])
    → items ≡ option_to_list option
held None items same = same
held (Some x) items same = same

pub returns-clause-speaks : goal.returns-clause-speaks
returns-clause-speaks g c =
    rw (sym c.listens.ensures)
    (rw (sym (held c.args.speaking.now.announce _ c.as_slice.ensures)) c.speak_session.ensures.speaks)
