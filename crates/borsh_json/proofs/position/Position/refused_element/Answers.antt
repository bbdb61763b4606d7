use Rattle.borsh_json.proofs.position.Position.refused_element.Goals as goal

pub returns-clause-path : goal.returns-clause-path
returns-clause-path c = c.refused_at.ensures.path c.args.self.now.root.now _ c.path_of_element.ensures
