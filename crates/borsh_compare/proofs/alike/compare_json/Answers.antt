use Rattle.std.proofs.Common.{◌∙◌, sym}
use Rattle.borsh_compare.proofs.Found.{roots_say}
use Rattle.borsh_compare.proofs.alike.compare_json.Goals as goal

pub returns : goal.returns
returns c = λ e. roots_say c.args.old.now.plan.now c.args.new.now.plan.now c.in_ok-pairs.pairs.list.items (λ i p there. c.in_ok-apart.ensures (sym c.as_slice.ensures.value ∙ c.has_roots-is_alike.ensures.none e) i p there) (c.has_roots-is_alike.ensures.roots e)
