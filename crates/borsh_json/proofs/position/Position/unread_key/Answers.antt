use Rattle.borsh_json.proofs.position.Position.unread_key.Goals as goal

pub returns-in-Refused-clause-path : goal.returns-in-Refused-clause-path
returns-in-Refused-clause-path c = c.refused_at.ensures.path c.args.self.now.root.now _ c.path_of_key.ensures
