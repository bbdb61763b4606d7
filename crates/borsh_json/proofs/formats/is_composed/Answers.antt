use Rattle.std.proofs.Common.{◌∙◌, [], append-nil, sym}
use Rattle.borsh_json.specs.Found.{joined}
use Rattle.borsh_json.proofs.formats.is_composed.Goals as goal

pub returns-in-None : goal.returns-in-None
returns-in-None c = ((λ e. cc), (λ e. absurd (c.in-None.ensures [] (e ∙ sym (append-nil (joined c.args.pieces.now))))))
