use Rattle.std.proofs.{Common.{◌∙◌, sym}, lemmas.Slice.Eq.{bytes_eq-Decides}}
use Rattle.borsh_values.proofs.MemberLaws.{same_front}
use Rattle.borsh_json.proofs.order.Pair.take_same.Goals as goal

pub returns-else-eq : goal.returns-else-eq
returns-else-eq c xs bs cs e f n =
    let t = c.in_ok-left.ensures in
    let l = same_front c.in_ok-left.left.now xs c.take.new.self.left.now bs (sym t.4 ∙ e) (t.0 ∙ sym n) in
    let r = same_front c.in_ok-left.right.now xs c.take.new.self.right.now cs (sym t.5 ∙ f) (t.1 ∙ sym n) in
    let q = c.eq.ensures ∙ (bytes_eq-Decides c.in_ok-left.left.now c.in_ok-left.right.now).1 (l.0 ∙ sym r.0) in
    let u = c.if-eq.false in
    cc
