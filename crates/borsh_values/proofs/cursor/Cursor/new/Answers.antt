use Rattle.std.proofs.Common.{◌∙◌, ◌∷◌, ◌+◌, ap, arith, length, replicate, reverse, subst, sym, None, []}
use Rattle.borsh_walks.proofs.Tables.{marks_none}
use Rattle.borsh_values.specs.Cursor.{Going}
use Rattle.borsh_plan.specs.{Plan.definitions_of}
use Rattle.borsh_values.specs.declared.{frames.Frame.Frame, frames.Rest.TheVariants.Copies}
use Rattle.borsh_values.proofs.Answers.{before_start, suffix_start}
use Rattle.borsh_values.proofs.Walk.{going_start}
use Rattle.borsh_values.proofs.TagLaws.{tables_none}
use Rattle.borsh_values.proofs.cursor.Cursor.new.Goals as goal

pub returns-clause-cursor : goal.returns-clause-cursor
returns-clause-cursor c =
    let l = c.args.plan.now in
    let bytes = c.args.bytes.now in
    let ms = c.in_ok-marks.marks.items in
    let f : Frame = record { at = 0; start = length bytes + 1; rest = Copies 0 1 } in
    let g = going_start l bytes ms (c.in_ok-marks.ensures ∙ ap (λ n. replicate n None) (c.len.ensures)) in
    record {
      going = subst (λ d. Going l d ms (reverse c.new-2.result.items) f bytes 0) (before_start bytes) (subst (λ q. Going l [] ms (reverse q) f bytes 0) (sym c.new-2.ensures.items) g);
      within = omega arith;
      suffix = suffix_start bytes;
      tables = tables_none (definitions_of l) c.new.result (marks_none c.new.result c.new.ensures.empty);
    }

pub returns-clause-begins : goal.returns-clause-begins
returns-clause-begins c = ap (λ q. record { at = 0; start = length c.args.bytes.now + 1; rest = Copies 0 1 } ∷ reverse q) c.new-2.ensures.items
