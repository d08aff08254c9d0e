use Rattle.std.proofs.Common.{sym, refl, ap, ◌∙◌, subst}
use Rattle.causality.specs.declared.CausalOrder.{CausalOrder}
use Rattle.correlator.specs.Told.{history}
use Rattle.history.specs.Calls.{Call}
use Rattle.history.specs.Answers.{OrderOf}
use Rattle.promise.specs.declared.requests.Answer.{Answer}
use Rattle.promise.specs.declared.requests.Request.{Request}
use Rattle.promise.specs.declared.requests.Request.TheVariants.{Order}
use Rattle.promise.specs.declared.requests.Value.{Value}
use Rattle.promise.specs.Requests.{Performed}
use Rattle.promise.proofs.Performing.{mapped, performed}
use Rattle.promise.proofs.runs.perform.Goals as goal

pub returns-in-Order : goal.returns-in-Order
returns-in-Order g c =
    let h = history c.args.c.now in
    let p = c.in-Order.p in
    let q = c.in-Order.q in
    let ordered : CausalOrder → Value = λ o. Value.Ordered o in
    let a = c.from-in-Order.result in
    subst (λ (k : Request). Performed h k a h) (sym c.in-Order.is) (
    performed h h (Order p q) (Call.order p q) ordered c.order.result (OrderOf h p q) a refl
    (ap (λ (x : Answer). x.result) c.from-in-Order.ensures ∙ mapped ordered (λ x v e. e) c.order.result c.map-in-Order.result c.map-in-Order.ensures.cases)
    (ap (λ (x : Answer). x.row) c.from-in-Order.ensures) (λ o right. (o, refl, right)) c.order.ensures)
