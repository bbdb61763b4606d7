use Rattle.std.proofs.{Common.{inl, inr, [], take, drop, refl, sym, arith}, Math.Nat.{zero-mul}, lemmas.Bool.{cases_lt}}
use Rattle.borsh_json.proofs.DescentLaws.{falls_next, front_of, one_passed, none_first, none_left, none_next, none_past}
use Rattle.borsh_json.proofs.order.first_descent.Goals as goal

pub loop-index-init : goal.loop-index-init
loop-index-init c = (omega arith, (λ k h e. ([], k, refl, sym (zero-mul c.args.size), e)), (λ F ns e a i l d. none_first F e c.args.bytes.now c.args.size i l d))

pub returns-then-falls : goal.returns-then-falls
returns-then-falls c F ns e a =
    let v = c.loop-index.invariant in
    let i = v.1 a.3.0 a.2 a.3.1 in
    falls_next F ns e c.args.order c.args.bytes.now c.loop-index.rest.now c.split.result.0.now c.split.result.1.now c.split-in-loop-index.result.0.now c.split-in-loop-index.result.1.now i.0 c.args.size i.1 c.loop-index.index c.falls.result a i.2 i.3 i.4 (let t = c.if-rest-size.false in omega (arith, t)) c.split.ensures.cut c.split-in-loop-index.ensures.cut c.falls.ensures c.if-falls.true v.0

pub loop-index-preserved : goal.loop-index-preserved
loop-index-preserved c =
    let n = c.args.size in
    let v = c.loop-index.invariant in
    let at = c.loop-index.index in
    let rest = c.loop-index.rest.now in (
      omega arith,
      (λ k h e.
          (let i = v.1 k h e in
          let f = front_of n rest (let t = c.if-rest-size.false in omega arith) in
          one_passed c.args.bytes.now rest c.split.result.1.now i.0 n i.1 at h v.0 i.2 i.3 i.4 (let t = c.if-rest-size.false in omega arith) (c.split.ensures.cut (take n rest) (drop n rest) f.0 f.1).1)),
      (λ F ns e a i l d.
          (let g = v.1 a.3.0 a.2 a.3.1 in
          elim (cases_lt i at) [
            | inl b ↦ v.2 F ns e a i b d
            | inr b ↦ none_next F ns e c.args.order c.args.bytes.now rest c.split.result.0.now c.split.result.1.now c.split-in-loop-index.result.0.now c.split-in-loop-index.result.1.now g.0 n g.1 at c.falls.result a g.2 g.3 g.4 (let t = c.if-rest-size.false in omega (arith, t)) c.split.ensures.cut c.split-in-loop-index.ensures.cut c.falls.ensures i c.if-falls.false b l d
          ])),
    )

pub returns-after-loop-index : goal.returns-after-loop-index
returns-after-loop-index c F ns e a i d =
    let at = c.loop-index.index in
    elim (cases_lt i at) [
      | inl b ↦ c.loop-index.invariant.2 F ns e a i b d
      | inr g ↦ none_past F e c.args.bytes.now c.args.size at i a.2 g c.loop-index-test.false d
    ]

pub returns-then-rest-size : goal.returns-then-rest-size
returns-then-rest-size c F ns e a i d =
    let v = c.loop-index.invariant in
    let at = c.loop-index.index in
    let w = v.1 a.3.0 a.2 a.3.1 in
    elim (cases_lt i at) [
      | inl b ↦ v.2 F ns e a i b d
      | inr g ↦ none_left F e c.args.bytes.now c.loop-index.rest.now w.0 c.args.size at i a.2 g w.2 w.3 c.if-rest-size.true d
    ]
