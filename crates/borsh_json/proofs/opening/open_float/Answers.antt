use Rattle.std.proofs.Common.{true≢false, sym, ◌∙◌, ap, refl, from_bits, pos}
use Rattle.borsh_walks.specs.Container.{little_endian, tag}
use Rattle.borsh_json.specs.Table.{float}
use Rattle.borsh_json.proofs.{FloatLaws.{below_size}, OpeningLaws.{opened_leaf, denied, refuses_expected}}
use Rattle.borsh_json.proofs.opening.open_float.Goals as goal

pub returns-in_ok-put_count-in-Some : goal.returns-in_ok-put_count-in-Some
returns-in_ok-put_count-in-Some c F ns x j h b =
    let n = c.in-Some.bits in
    let d = c.in-Some.ensures h.0 j h.1 b in
    let own = tag c.args.size (pos n) in
    opened_leaf F ns x j (float h.0) c.args.out.now.items c.put_count.new.out.items own h.2 c.in_ok-put_count-in-Some.ensures
    (from_bits h.0 n, d.1, (n, ap (λ k. little_endian k n) h.1, below_size h.0 n d.0, refl, d.2), refl)

pub returns-in-None : goal.returns-in-None
returns-in-None c F ns x j h b =
    refuses_expected F ns x j c.expected.result c.expected.ensures (denied F ns x j (float h.0) h.2 (λ own ps s. true≢false (sym (c.in-None.ensures h.0 j h.1 b s.0 s.1) ∙ s.2.4)))
