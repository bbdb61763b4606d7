use Rattle.std.proofs.Common.{◌≡◌, ◌∙◌, ◌<◌, ◌++◌, length, ap, subst, sym, arith, string_bytes, IsUtf8}
use Rattle.json.specs.{Lex.{tokens}, Print.{print}}
use Rattle.borsh_plan.specs.Plan.{names_of as plan_names}
use Rattle.borsh_json.specs.Found.{forms_of, names_of}
use Rattle.borsh_json.proofs.TellingLaws.{HasTold, told_none, told_next, told_all}
use Rattle.borsh_json.proofs.table.Table.names.Goals as goal

pub loop-at-init : goal.loop-at-init
loop-at-init c =
    let d = c.args.self.now in
    told_none (forms_of d) (names_of d) c.new-writer.result c.begin_object.new.self (c.new-writer.ensures.before ∙ c.new.ensures.items) c.new-writer.ensures.tokens (c.in_ok-begin_object.ensures.room.0, c.in_ok-begin_object.ensures.ok)

pub loop-at-preserved : goal.loop-at-preserved
loop-at-preserved c =
    let d = c.args.self.now in
    let low : c.loop-at.at < length (names_of d) = (let n = ap (λ p. length (plan_names p.now)) c.plan.ensures in let l = c.len-at-end.ensures in let t = c.loop-at-test.true in omega arith) in
    told_next (forms_of d) (names_of d) c.loop-at.at c.name.result.now c.word.result.now c.loop-at.writer c.key.new.self c.string.new.self c.loop-at.invariant low c.name.ensures c.word.ensures (c.in_ok-key.ensures.room.0, c.in_ok-key.ensures.ok) (c.in_ok-string.ensures.room.0, c.in_ok-string.ensures.ok)

pub text_of-requires : goal.text_of-requires
text_of-requires c =
    let w = c.end_object.new.self in
    let printed = c.into_inner.ensures.items ∙ ap (λ b. b ++ print w.tokens) (c.in_ok-end_object.ensures.room.0 ∙ c.loop-at.invariant.0) in
    subst (λ t. IsUtf8 t) (sym printed) c.into_inner.ensures.utf8

pub returns : goal.returns
returns c =
    let d = c.args.self.now in
    let w = c.end_object.new.self in
    let all : c.loop-at.at ≡ length (names_of d) = (let n = ap (λ p. length (plan_names p.now)) c.plan.ensures in let l = c.len-at-end.ensures in let t = c.loop-at-test.false in let e = c.loop-at.auto in omega arith) in
    let told = subst (λ k. HasTold (forms_of d) (names_of d) k c.loop-at.writer) all c.loop-at.invariant in
    let printed = c.into_inner.ensures.items ∙ ap (λ b. b ++ print w.tokens) (c.in_ok-end_object.ensures.room.0 ∙ c.loop-at.invariant.0) in
    told_all (forms_of d) (names_of d) (string_bytes c.text_of.result) c.loop-at.writer w told (c.in_ok-end_object.ensures.room.0, c.in_ok-end_object.ensures.ok)
    (ap (λ b. tokens b) (c.text_of.ensures ∙ printed) ∙ c.into_inner.ensures.reads_back)
