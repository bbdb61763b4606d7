use Rattle.borsh_json.proofs.PendingLaws.{turn_at, front_single, front_number, front_text, front_array, front_tuple, turn_list, front_short, front_list, front_empty}
use Rattle.borsh_json.proofs.order.compare_front.Goals as goal

pub returns-in-Single : goal.returns-in-Single
returns-in-Single c t ts i a =
    front_single _ _ c.args.pending.now.items ts _ _ a t (rw c.in-Single.is at i)

pub returns-in-Number : goal.returns-in-Number
returns-in-Number c t ts i a =
    let q = c.compare_numbers.new.self in
    front_number _ _ c.args.pending.now.items ts _ _ a t c.in-Number.size c.in-Number.is_signed q.left.now q.right.now c.compare_numbers.result (rw c.in-Number.is at i) c.compare_numbers.ensures

pub returns-in-Text : goal.returns-in-Text
returns-in-Text c t ts i a =
    let q = c.compare_texts.new.self in
    front_text _ _ c.args.pending.now.items ts _ _ a t q.left.now q.right.now c.compare_texts.result (rw c.in-Text.is at i) c.compare_texts.ensures

pub returns-in_ok-push-in-Array : goal.returns-in_ok-push-in-Array
returns-in_ok-push-in-Array c t ts i a =
    front_array _ _ c.args.pending.now.items ts _ _ a t _ c.in-Array.count c.in-Array.element c.in_ok-push-in-Array.ensures.items (rw c.in-Array.is at i)

pub returns-in_ok-push-in-Tuple : goal.returns-in_ok-push-in-Tuple
returns-in_ok-push-in-Tuple c t ts i a =
    front_tuple _ _ c.args.pending.now.items ts _ _ a t _ c.in-Tuple.at c.in-Tuple.count c.in_ok-push-in-Tuple.ensures.items (rw c.in-Tuple.is at i)

pub returns-then-is_zero_size : goal.returns-then-is_zero_size
returns-then-is_zero_size c t ts i a =
    let w = c.in-List.width in
    let q = c.take_counts.new.self in
    let g = turn_list _ _ c.args.pending.now.items ts c.args.pair.now.left.now c.args.pair.now.right.now a t w c.in-List.element (rw c.in-List.is at i) in
    let k = c.in-Some.ensures g.5 in
    front_empty _ _ c.args.pending.now.items ts _ _ a t g.0 w c.in-List.element g.1 g.2 g.4 c.in-Some.left c.in-Some.right q.left.now q.right.now k.0 k.1 k.2 k.3 c.cmp.result ((c.is_zero_size.ensures g.1 g.3).0 c.if-is_zero_size.true) c.cmp.ensures

pub returns-in_ok-push-in-List : goal.returns-in_ok-push-in-List
returns-in_ok-push-in-List c t ts i a =
    let w = c.in-List.width in
    let q = c.take_counts.new.self in
    let g = turn_list _ _ c.args.pending.now.items ts c.args.pair.now.left.now c.args.pair.now.right.now a t w c.in-List.element (rw c.in-List.is at i) in
    let k = c.in-Some.ensures g.5 in
    front_list _ _ c.args.pending.now.items ts _ _ a t g.0 w c.in-List.element g.1 g.2 g.4 c.in-Some.left c.in-Some.right q.left.now q.right.now k.0 k.1 k.2 k.3 _ c.in_ok-push-in-List.ensures.items g.3

pub returns-in_default : goal.returns-in_default
returns-in_default c t ts i a =
    let w = c.in-List.width in
    let g = turn_list _ _ c.args.pending.now.items ts c.args.pair.now.left.now c.args.pair.now.right.now a t w c.in-List.element (rw c.in-List.is at i) in
    front_short _ _ c.args.pending.now.items ts _ _ a t g.0 w g.1 g.2 g.4 (c.in_default.ensures g.5)

pub returns-in-Other : goal.returns-in-Other
returns-in-Other c t ts i a =
    let u = rw c.in-Other.is at i in
    let x = turn_at _ _ t c.in-Other.at u in
    c.compare_copies.ensures x.0 t ts x.1 u a
