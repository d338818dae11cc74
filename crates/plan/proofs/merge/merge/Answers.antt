use Rattle.std.proofs.Common.{◌++◌, length, drop, sym, ap, ◌∙◌, subst}
use Rattle.std.proofs.lemmas.Result.{err_from_is_err_and}
use Rattle.std.proofs.lemmas.Bool.{both_ways, ltb-true, ltb-false}
use Rattle.plan.specs.Merge.{MergedTable}
use Rattle.plan.proofs.Merging.{list_refused, places_refused, plan_missing, plan_found, not_refused, read_back, Outcome}
use Rattle.plan.proofs.merge.merge.Goals as goal

pub returns-in_err-lawful : goal.returns-in_err-lawful
returns-in_err-lawful c =
    let ks = c.args.list.kinds.now in
    let ds = c.args.list.dimensions.now in
    let old = c.args.table.now in
    let r = err_from_is_err_and c.from_residual.result c.from_residual.ensures.1 in
    let o : Outcome ks ds old old c.from_residual.result = rw (r.1, r.2) (list_refused ks ds old _ c.in_err-lawful.ensures.refused) in
    record { refuses = o.refuses; answers = o.answers; fills = o.fills; rule = o.rule; law = o.law }

pub returns-then-few_places : goal.returns-then-few_places
returns-then-few_places c =
    let same = c.in_ok-lawful.ensures.same in
    let o = places_refused c.args.list.kinds.now c.args.list.dimensions.now c.args.table.now
    (rw same at c.in_ok-lawful.lawful.lawful) (ltb-true _ _ (sym c.few_places.ensures ∙ c.if-few_places.true)) in
    record { refuses = o.refuses; answers = o.answers; fills = o.fills; rule = o.rule; law = o.law }

pub returns-then-not-stands : goal.returns-then-not-stands
returns-then-not-stands c =
    let ks = c.args.list.kinds.now in
    let ds = c.args.list.dimensions.now in
    let old = c.args.table.now in
    let same = c.in_ok-lawful.ensures.same in
    let merged = subst (MergedTable ds) (sym c.as_slice-plan.ensures.value) (rw same at c.merged_table-merged.ensures) in
    let o = plan_missing ks ds old (rw same at c.in_ok-lawful.lawful.lawful) (ltb-false _ _ (sym c.few_places.ensures ∙ c.if-few_places.false))
    c.as_slice-plan.result.now merged
    (λ a. both_ways c.stands.result c.if-not-stands.true ((rw same at c.stands.ensures).1 a)) in
    record { refuses = o.refuses; answers = o.answers; fills = o.fills; rule = o.rule; law = o.law }

pub returns-in_err-check : goal.returns-in_err-check
returns-in_err-check c =
    let plan = c.as_slice-plan.result.now in
    let same = c.in_ok-lawful.ensures.same in
    absurd
    (not_refused c.args.list.kinds.now c.args.list.dimensions.now plan _ c.in_err-check.field-0.0
    (rw same at c.in_ok-lawful.lawful.lawful) ((rw same at c.stands.ensures).0 c.if-not-stands.false)
    (read_back plan c.copy_from_slice.new.self c.args.table.now c.copy_from_slice.ensures.after) c.in_err-check.ensures.accepts)

pub returns : goal.returns
returns c =
    let ks = c.args.list.kinds.now in
    let ds = c.args.list.dimensions.now in
    let old = c.args.table.now in
    let plan = c.as_slice-plan.result.now in
    let same = c.in_ok-lawful.ensures.same in
    let merged = subst (MergedTable ds) (sym c.as_slice-plan.ensures.value) (rw same at c.merged_table-merged.ensures) in
    let o = plan_found ks ds old (rw same at c.in_ok-lawful.lawful.lawful) (ltb-false _ _ (sym c.few_places.ensures ∙ c.if-few_places.false))
    plan merged ((rw same at c.stands.ensures).0 c.if-not-stands.false) _
    (ap (λ p. p ++ drop (length plan) old) c.copy_from_slice.ensures.after) in
    record { refuses = o.refuses; answers = o.answers; fills = o.fills; rule = o.rule; law = o.law }
