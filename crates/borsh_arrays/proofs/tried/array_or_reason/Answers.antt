use Rattle.std.proofs.Common.{◌∙◌, sym}
use Rattle.borsh_arrays.proofs.Views.{IsMade-view, IsGivenUp-view}
use Rattle.borsh_arrays.proofs.tried.array_or_reason.Goals as goal

pub returns-in-Ok-clause-same_maker : goal.returns-in-Ok-clause-same_maker
returns-in-Ok-clause-same_maker g c = (IsMade-view (λ s. s.maker.now) (λ s. s.maker.ghost_name) (λ s. s.reason.ghost_name) g.M.TryMaker.makes c.in-Ok.ensures.ok).0

pub returns-in-Ok-clause-same_reason : goal.returns-in-Ok-clause-same_reason
returns-in-Ok-clause-same_reason g c = (IsMade-view (λ s. s.maker.now) (λ s. s.maker.ghost_name) (λ s. s.reason.ghost_name) g.M.TryMaker.makes c.in-Ok.ensures.ok).1

pub returns-in-Ok-clause-ok : goal.returns-in-Ok-clause-ok
returns-in-Ok-clause-ok g c = (IsMade-view (λ s. s.maker.now) (λ s. s.maker.ghost_name) (λ s. s.reason.ghost_name) g.M.TryMaker.makes c.in-Ok.ensures.ok).2

pub returns-in-Some-clause-same_maker : goal.returns-in-Some-clause-same_maker
returns-in-Some-clause-same_maker g c =
    (IsGivenUp-view (λ s. s.maker.now) (λ s. s.maker.ghost_name) (λ s. s.reason.ghost_name) g.M.TryMaker.makes (λ s. s.reason.now) g.M.TryMaker.fails c.in-Some.reason (sym c.take.ensures.value ∙ c.in-Some.is) c.in-Err.ensures.err).0

pub returns-in-Some-clause-same_reason : goal.returns-in-Some-clause-same_reason
returns-in-Some-clause-same_reason g c =
    (IsGivenUp-view (λ s. s.maker.now) (λ s. s.maker.ghost_name) (λ s. s.reason.ghost_name) g.M.TryMaker.makes (λ s. s.reason.now) g.M.TryMaker.fails c.in-Some.reason (sym c.take.ensures.value ∙ c.in-Some.is) c.in-Err.ensures.err).1

pub returns-in-Some-clause-err : goal.returns-in-Some-clause-err
returns-in-Some-clause-err g c =
    (IsGivenUp-view (λ s. s.maker.now) (λ s. s.maker.ghost_name) (λ s. s.reason.ghost_name) g.M.TryMaker.makes (λ s. s.reason.now) g.M.TryMaker.fails c.in-Some.reason (sym c.take.ensures.value ∙ c.in-Some.is) c.in-Err.ensures.err).2
