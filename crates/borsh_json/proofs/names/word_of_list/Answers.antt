use Rattle.std.proofs.Common.{refl, subst, true, false, MatchBool}
use Rattle.borsh_json.specs.Names.{HasOtherKeys, HasToldKeys}
use Rattle.borsh_json.proofs.TellingLaws.{list_word}
use Rattle.borsh_json.proofs.names.word_of_list.Goals as goal

pub returns-then-is_sorted : goal.returns-then-is_sorted
returns-then-is_sorted c F ns x f k h t = list_word F ns x f c.args.elements true _ (subst (λ b. MatchBool b (HasToldKeys F x) (HasOtherKeys F x)) c.if-is_sorted.true (c.is_sorted.ensures F ns x h t)) refl k

pub returns-else-is_sorted : goal.returns-else-is_sorted
returns-else-is_sorted c F ns x f k h t = list_word F ns x f c.args.elements false _ (subst (λ b. MatchBool b (HasToldKeys F x) (HasOtherKeys F x)) c.if-is_sorted.false (c.is_sorted.ensures F ns x h t)) refl k
