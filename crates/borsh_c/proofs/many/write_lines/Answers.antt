use Rattle.std.proofs.Common.{◌∙◌, ◌+◌, ◌++◌, ◌∷◌, [], List, ℕ, ap, arith, string_bytes, subst, sym, take}
use Rattle.borsh_plan.specs.Plan.{map_of, root_of}
use Rattle.borsh_json.specs.Printed.{IsPrinted}
use Rattle.borsh_json.specs.declared.output.Layout.{Layout}
use Rattle.borsh_c.specs.Many.{HaveLines, IsLineOf}
use Rattle.borsh_c.proofs.Records.{lined, passed}
use Rattle.borsh_c.proofs.many.write_lines.Goals as goal

pub loop-count-preserved : goal.loop-count-preserved
loop-count-preserved c =
    let m = map_of c.args.json.now.plan.now in
    let root = root_of c.args.json.now.plan.now in
    let lengths = c.args.lengths.now in
    let text = c.loop-count.text.items in
    let line = ap (λ (bytes : List ℕ). text ++ bytes) c.as_bytes.ensures.value in
    let items = c.in_ok-push-in-Ok.ensures.items ∙ ap (λ (bytes : List ℕ). bytes ++ (10 ∷ [])) (c.in_ok-extend_from_slice-in-Ok.ensures.items ∙ line) in
    let json = c.in-Ok.ensures in
    let printed = subst (λ (layout : Layout). IsPrinted layout (string_bytes c.in-Ok.line)) c.requires.0 (json.printed c.requires.1) in
    let says = subst (λ (bytes : List ℕ). IsLineOf c.args.style.long_numbers m root bytes (string_bytes c.in-Ok.line)) c.first.ensures ((json.says, printed, json.quoted), json.line c.requires.0) in
    record {
      within = omega arith;
      lines = subst (HaveLines c.args.style.long_numbers m root (take (c.loop-count.count + 1) lengths) c.args.values.now) (sym items)
          (lined c.args.style.long_numbers m root lengths c.args.values.now c.loop-count.left.now text c.loop-count.count (string_bytes c.in-Ok.line) (omega arith) c.loop-count.invariant.lines c.loop-count.invariant.rest says);
      rest = c.others-left.ensures ∙ passed c.args.lengths.now c.args.values.now c.loop-count.left.now c.loop-count.count (omega arith) c.loop-count.invariant.rest;
    }
