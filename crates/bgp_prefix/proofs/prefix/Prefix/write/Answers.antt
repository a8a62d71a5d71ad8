use Rattle.bgp_prefix.proofs.PrefixParts.{appended, asked, refused_for, grown_by}
use Rattle.bgp_prefix.proofs.prefix.Prefix.write.Goals as goal

pub returns-clause-ok : goal.returns-clause-ok
returns-clause-ok g c =
    appended c.extend_from_slice.result _ _ c.self.inside.family c.self.inside.length _ c.self.inside.octets _ c.args.self.now c.self.invariant c.self.view_is c.copy_from_slice.ensures.after c.octet_count.ensures c.extend_from_slice.ensures.items

pub returns-clause-memory : goal.returns-clause-memory
returns-clause-memory g c =
    refused_for c.extend_from_slice.result _ _ _ _ c.extend_from_slice.ensures.full
    (asked c.self.inside.family c.self.inside.length _ c.self.inside.octets _ c.args.self.now c.self.invariant c.self.view_is c.copy_from_slice.ensures.after c.octet_count.ensures)

pub returns-clause-len : goal.returns-clause-len
returns-clause-len g c =
    grown_by c.extend_from_slice.result _ _ _ _ c.extend_from_slice.ensures.len
    (asked c.self.inside.family c.self.inside.length _ c.self.inside.octets _ c.args.self.now c.self.invariant c.self.view_is c.copy_from_slice.ensures.after c.octet_count.ensures)
