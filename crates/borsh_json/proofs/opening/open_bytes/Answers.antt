use Rattle.std.proofs.Common.{◌++◌, ◌∙◌, ap, refl}
use Rattle.borsh_json.specs.Table.{raw}
use Rattle.borsh_json.proofs.OpeningLaws.{opened_leaf, said, refuses_plain}
use Rattle.borsh_json.proofs.opening.open_bytes.Goals as goal

pub returns-in_ok-extend_from_slice-in-Ok : goal.returns-in_ok-extend_from_slice-in-Ok
returns-in_ok-extend_from_slice-in-Ok c F ns x j h b =
    let d = c.in-Ok.ensures j b in
    opened_leaf F ns x j (raw c.args.size) c.args.out.now.items c.extend_from_slice.new.self.items c.in-Ok.bytes.items h (c.in_ok-extend_from_slice-in-Ok.ensures.items ∙ ap (λ l. c.args.out.now.items ++ l) c.as_slice.ensures.value) (d.0, d.1, refl)

pub returns-in-Err : goal.returns-in-Err
returns-in-Err c F ns x j h b = refuses_plain F ns x j c.in-Err.error (λ g. let s = said F ns x j (raw c.args.size) h g in (s.0, s.2.0, s.2.1)) (c.in-Err.ensures j b)
