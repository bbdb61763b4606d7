use Rattle.borsh_json.proofs.{OpeningLaws.{refuses_expected}, PartsLaws.{row_opened, row_count, no_row}}
use Rattle.borsh_json.proofs.opening.open_row.Goals as goal

pub returns-then-found-count : goal.returns-then-found-count
returns-then-found-count c F ns x j h b =
    let a = c.in-Of.ensures j b in
    row_opened F ns x j h.0 c.args.at c.args.count h.1 h.2 h.3.0 h.3.1 c.new-place.result c.in-Of.items a.0 c.in-Of.found c.new-place.ensures.parts c.new-place.ensures.begun a.1 a.2 a.3 c.if-found-count.true

pub returns-else-found-count : goal.returns-else-found-count
returns-else-found-count c F ns x j h b =
    let a = c.in-Of.ensures j b in
    refuses_expected F ns x j c.wrong_row.result c.wrong_row.ensures (row_count F ns x j h.0 c.args.at c.args.count h.1 h.2 h.3.0 h.3.1 a.0 c.in-Of.found a.1 a.3 c.if-found-count.false)

pub returns-in-No : goal.returns-in-No
returns-in-No c F ns x j h b = refuses_expected F ns x j c.wrong_row-in-No.result c.wrong_row-in-No.ensures (no_row F ns x j h.0 c.args.at c.args.count h.1 h.2 h.3.0 h.3.1 (c.in-No.ensures j b))
