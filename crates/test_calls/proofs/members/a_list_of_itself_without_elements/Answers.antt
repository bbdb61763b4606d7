use Rattle.test_calls.proofs.Laws.{count_member, only_count}
use Rattle.test_calls.proofs.members.a_list_of_itself_without_elements.Goals as goal

pub returns : goal.returns
returns c = λ C x h. (count_member C x h, only_count C x h)
