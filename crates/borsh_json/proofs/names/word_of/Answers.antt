use Rattle.std.proofs.Common.{refl, subst, true, false, MatchBool}
use Rattle.borsh_json.specs.Names.{HasOtherKeys, HasToldKeys}
use Rattle.borsh_json.proofs.TellingLaws.{bytes_word}
use Rattle.borsh_json.proofs.names.word_of.Goals as goal

pub returns-then-is_sorted : goal.returns-then-is_sorted
returns-then-is_sorted c F ns x f k h t =
    let o = rw c.in-ByteList.is at h in
    let n = rw c.in-ByteList.is at t in
    bytes_word F ns x f c.in-ByteList.elements true _ (subst (λ b. MatchBool b (HasToldKeys F x) (HasOtherKeys F x)) c.if-is_sorted.true (c.is_sorted.ensures F ns x o.1 n)) refl (rw c.in-ByteList.is at k)

pub returns-else-is_sorted : goal.returns-else-is_sorted
returns-else-is_sorted c F ns x f k h t =
    let o = rw c.in-ByteList.is at h in
    let n = rw c.in-ByteList.is at t in
    bytes_word F ns x f c.in-ByteList.elements false _ (subst (λ b. MatchBool b (HasToldKeys F x) (HasOtherKeys F x)) c.if-is_sorted.false (c.is_sorted.ensures F ns x o.1 n)) refl (rw c.in-ByteList.is at k)

pub returns-in-Numbers : goal.returns-in-Numbers
returns-in-Numbers c F ns x f k h t =
    let l = rw c.in-Numbers.is at k in
    c.word_of_list.ensures F ns x f l.0 (rw c.in-Numbers.is at h) (rw c.in-Numbers.is at t)

pub returns-in-List : goal.returns-in-List
returns-in-List c F ns x f k h t =
    let l = rw c.in-List.is at k in
    c.word_of_list-in-List.ensures F ns x f l.0 (rw c.in-List.is at h) (rw c.in-List.is at t)
