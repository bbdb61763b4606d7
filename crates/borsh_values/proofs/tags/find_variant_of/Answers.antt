use Rattle.borsh_walks.proofs.Tables.{updated_by}
use Rattle.borsh_values.proofs.TagLaws.{keeps_more}
use Rattle.borsh_values.proofs.tags.find_variant_of.Goals as goal

pub returns-clause-kept : goal.returns-clause-kept
returns-clause-kept c =
    let m = c.args.tables.now in
    let n = c.insert.new.self in
    let t = c.in_ok-table.table in
    keeps_more m n t c.in_ok-table.ensures (updated_by c.args.name.now m n t c.in_ok-insert.ensures.updates)
