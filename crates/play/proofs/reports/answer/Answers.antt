use Rattle.std.proofs.Common.{sym, subst}
use Rattle.correlator.specs.Told.{history}
use Rattle.history.specs.Answers.{Obeys, OrderOf}
use Rattle.history.specs.Calls.{Call}
use Rattle.line_forms.specs.declared.forms.Line.{Line}
use Rattle.play.specs.Reports.{Tells, call_of}
use Rattle.play.proofs.Reporting.{obeys_told}
use Rattle.play.proofs.reports.answer.Goals as goal

pub returns-in-Order : goal.returns-in-Order
returns-in-Order g c =
    let h = history c.args.c.now in
    subst (λ (l : Line). Obeys h (call_of l) c.map-in-Order.result (Tells h l) h) (sym c.in-Order.is)
    (obeys_told h h (Call.order c.in-Order.p c.in-Order.q) (OrderOf h c.in-Order.p c.in-Order.q) c.order.result _ c.map-in-Order.ensures.cases c.order.ensures)
