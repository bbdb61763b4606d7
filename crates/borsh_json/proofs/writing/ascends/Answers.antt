use Rattle.std.proofs.Common.{Option, sym, subst}
use Rattle.std.specs.Prelude.{IfOk}
use Rattle.borsh_json.specs.{declared.order.Ascent.{Ascent}, Writes.{TellsAscent}}
use Rattle.borsh_json.proofs.FallLaws.{begun_tells}
use Rattle.borsh_json.proofs.writing.ascends.Goals as goal

pub returns-clause-tells : goal.returns-clause-tells
returns-clause-tells c =
    let d = c.args.json.now in
    let bytes = c.args.bytes.now in
    let b = c.begin.ensures in
    let t = begun_tells d bytes c.in-Some.ascent c.begin.new.self c.args.offset c.ascends.result b.order b.earlier b.last c.ascends.ensures.first c.ascends.ensures.order in
    subst (λ (a : Option Ascent). IfOk c.ascends.result (TellsAscent d bytes a c.args.offset)) (sym c.in-Some.is) t
