use Rattle.std.proofs.Common.{string_bytes}
use Rattle.borsh_c.specs.Answers.{IsJsonOf}
use Rattle.borsh_c.proofs.Told.{about_told, bytes_refused}
use Rattle.borsh_c.proofs.answers.json_of.Goals as goal

pub returns-in-Ok-clause-ok : goal.returns-in-Ok-clause-ok
returns-in-Ok-clause-ok c =
    about_told (c.in_ok-root.root, c.in_ok-root.definitions) c.in_ok-root.ensures.ok c.as_str.result.now c.as_str.ensures.value (IsJsonOf c.args.style.layout c.args.style.long_numbers c.args.value.now (string_bytes c.in-Ok.json)) (c.in-Ok.ensures.says, c.in-Ok.ensures.printed c.requires, c.in-Ok.ensures.quoted)

pub returns-clause-err : goal.returns-clause-err
returns-clause-err c =
    bytes_refused (c.in_ok-root.root, c.in_ok-root.definitions) c.in_ok-root.ensures.ok c.as_str.result.now c.as_str.ensures.value c.args.value.now c.in-Err.error c.in-Err.ensures.reason c.in-Err.ensures.refused c.in_ok-no_value-in-Err.field-0 c.in_ok-no_value-in-Err.ensures
