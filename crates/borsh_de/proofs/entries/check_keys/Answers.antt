use Rattle.std.proofs.Common.{rules, ◌≡◌, false, true, sym, subst, ◌∙◌, true≢false}
use Rattle.std.specs.List.Sorted.{IsStrictlySortedBy}
use Rattle.borsh_codec.proofs.ReadMaps.{keys-bare_entries}
use Rattle.borsh_de.proofs.entries.check_keys.Goals as goal

pub returns-then-not-keys_ascend : goal.returns-then-not-keys_ascend
returns-then-not-keys_ascend g c =
    let asked : c.args.strict ≡ true = search rules in
    let falls : c.keys_ascend.result ≡ false = search rules in
    (c.wrong_order.ensures, record { asked = asked; unordered = λ up. true≢false (sym (c.keys_ascend.ensures.1 (subst (IsStrictlySortedBy g.K.Ord.cmp) (keys-bare_entries c.args.keys.now) up)) ∙ falls) })
