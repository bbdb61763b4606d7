use Rattle.std.proofs.Common.{subst}
use Rattle.borsh_walks.specs.Container.{Member}
use Rattle.borsh_walks.proofs.Forms.{shapes_are}
use Rattle.borsh_json.specs.Forms.{forms_in}
use Rattle.borsh_json.proofs.RepresentsLaws.{text_one}
use Rattle.borsh_json.proofs.laws.text_determines_bytes.Goals as goal

pub returns : goal.returns
returns c = record {
  bytes = λ a b p q. text_one (forms_in c.args.map.now) c.args.root.now c.args.text.now p q;
  member = λ a p. subst (λ C. Member C c.args.root.now a) (shapes_are c.args.map.now) p.3;
}
