use Rattle.std.proofs.Common.{◌∙◌, List, ap, inl, length, map, refl, subst}
use Rattle.mrt_sessions.specs.Located.{located}
use Rattle.mrt_sessions.specs.Sessions.{HoldsSessions}
use Rattle.mrt_sessions.specs.declared.named.NamedRecord.{NamedRecord}
use Rattle.bgp_list.specs.Forms.{sessions_in_form}
use Rattle.bgp_list.proofs.capture.put_listed.Goals as goal

pub returns : goal.returns
returns g c =
    let named = map located c.in-Ok.file.records.items in
    let holds = subst (λ (rs : List NamedRecord). HoldsSessions (map located rs) c.in-Ok-of.sessions) c.as_slice.ensures.value c.in-Ok-of.ensures in
    let put = c.in-Ok-put_in_form.ensures named holds in (
      sessions_in_form c.args.form named,
      put.0,
      inl (
        record {
          named = named;
          offset = c.in-Ok.file.offset;
          refusal = c.in-Ok.file.refusal;
          has = c.in-Ok.ensures.has;
          is_text = refl;
          is_fault = c.fault.ensures;
        },
        put.1,
        ap length (c.in_order.ensures ∙ holds.in_order),
      ),
    )
