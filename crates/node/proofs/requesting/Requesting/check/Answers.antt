use Rattle.std.proofs.Common.{sym, ap, ◌∙◌}
use Rattle.link.proofs.Exits.{passed_on}
use Rattle.node.specs.Answers.{asked}
use Rattle.node.proofs.Joining.{welcomed_ok, welcomed_err}
use Rattle.node.proofs.requesting.Requesting.check.Goals as goal

pub returns-in_err-welcome : goal.returns-in_err-welcome
returns-in_err-welcome g c =
    passed_on (λ x. x) _ _ c.from_residual.ensures.1 ∙ ap asked (sym (welcomed_err _ _ _ c.in_err-welcome.ensures))

pub returns : goal.returns
returns g c = ap asked (sym (welcomed_ok _ _ _ c.in_ok-welcome.ensures).0)
