use Rattle.borsh_json.proofs.position.Position.refused.Goals as goal

pub returns-clause-path : goal.returns-clause-path
returns-clause-path c = c.refused_at.ensures.path c.args.self.now.root.now _ c.path.ensures
