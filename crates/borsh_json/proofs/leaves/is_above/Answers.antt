use Rattle.std.proofs.Common.{subst}
use Rattle.borsh_json.specs.{declared.sources.EntryKey.{EntryKey}, Frames.{IsEntryKey}}
use Rattle.borsh_json.proofs.KeyLaws.{rank_above}
use Rattle.borsh_json.proofs.leaves.is_above.Goals as goal

pub returns-in-Rank-Rank : goal.returns-in-Rank-Rank
returns-in-Rank-Rank c = λ F ns k f kind keys s t i j a l m.
    rank_above F ns k f kind keys s t i j c.in-Rank-Rank.last c.in-Rank-Rank.key a (subst (λ (e : EntryKey). IsEntryKey kind e s) c.in-Rank-Rank.is-0 l) (subst (λ (e : EntryKey). IsEntryKey kind e t) c.in-Rank-Rank.is-1 m)
