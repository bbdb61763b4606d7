use Rattle.test_calls.proofs.Laws.{none_of_tuple}
use Rattle.test_calls.proofs.members.a_tuple_of_itself.Goals as goal

pub returns : goal.returns
returns c = λ C x h. none_of_tuple C x h
