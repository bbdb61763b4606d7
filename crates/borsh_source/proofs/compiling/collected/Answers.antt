use Rattle.std.proofs.Common.{map, sym, ◌∙◌, ap, Some}
use Rattle.std.specs.Prelude.{string_bytes}
use Rattle.borsh_definitions.proofs.Laws.Adding.{nothing_in}
use Rattle.borsh_source.specs.Views.{source_of, used}
use Rattle.borsh_source.proofs.Collected.{collected_first, collected_more, collected_all, means_outside, get_map, get_map_none}
use Rattle.borsh_source.proofs.compiling.collected.Goals as goal

pub loop-next-init : goal.loop-next-init
loop-next-init c = collected_first (source_of c.args.context.now) c.args.root (string_bytes c.in_ok-declaration.declaration) (λ n. ap (λ d. d n) (nothing_in c.new-definitions.result c.new-definitions.ensures.empty)) (ap (map used) c.new-uses.ensures.items) (means_outside _ _ c.outside-scope.ensures.parameters c.outside-scope.ensures.given c.in_ok-declaration.ensures)

pub loop-next-preserved : goal.loop-next-preserved
loop-next-preserved c = collected_more (used c.in_ok-used.used) c.loop-next.invariant (get_map used c.loop-next.output.uses.items c.loop-next.next c.in-Some.used.now (sym c.in-Some.ensures) ∙ ap (λ z. Some z) (sym c.in_ok-used.ensures)) c.in_ok-add_item.ensures

pub returns-in_default : goal.returns-in_default
returns-in_default c = collected_all c.loop-next.invariant (get_map_none used c.loop-next.output.uses.items c.loop-next.next (sym c.in_default.ensures))
