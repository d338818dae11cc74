use Rattle.std.proofs.Common.{Ok, refl}
use Rattle.std.proofs.lemmas.Result.{err_from_is_err_and}
use Rattle.graph.specs.Rows.{told}
use Rattle.sketch.specs.SketchFaults.{sketch_refusal}
use Rattle.sketch.proofs.Adopting.{file_refused, check_tables, check_refused, refused_says, accepted_says, accepted_kept}
use Rattle.sketch.proofs.sketch.Sketch.adopt.Goals as goal

pub returns-in_err-tables : goal.returns-in_err-tables
returns-in_err-tables c =
    let bs = c.args.bytes.now in
    let r = c.from_residual.result in
    let is = err_from_is_err_and r c.from_residual.ensures.1 in
    let says = refused_says bs (told sketch_refusal r) _ (rw (is.1, is.2)) (file_refused bs _ c.in_err-tables.ensures.answer) in
    record {
      answer = says.0;
      after = says.1 _;
      refused = rw is.1 refl;
      refuses = says.2;
      file = rw is.1 tt;
    }

pub returns-in_err-check : goal.returns-in_err-check
returns-in_err-check c =
    let bs = c.args.bytes.now in
    let t = c.in_ok-tables.tables in
    let r = c.from_residual-in_err-check.result in
    let is = err_from_is_err_and r c.from_residual-in_err-check.ensures.1 in
    let checked = check_tables t _ _ _ _ c.list.ensures.kinds c.list.ensures.dimensions c.plan.ensures c.in_err-check.ensures.answer in
    let says = refused_says bs (told sketch_refusal r) _ (rw (is.1, is.2)) (check_refused bs t c.in_ok-tables.ensures.answer _ checked) in
    record {
      answer = says.0;
      after = says.1 _;
      refused = rw is.1 refl;
      refuses = says.2;
      file = rw is.1 tt;
    }

pub invariant_of-self : goal.invariant_of-self
invariant_of-self c =
    let t = c.in_ok-tables.tables in
    let was_read = c.in_ok-tables.ensures in
    let checked = check_tables t _ _ _ (Ok c.in_ok-check.field-0) c.list.ensures.kinds c.list.ensures.dimensions c.plan.ensures c.in_ok-check.ensures.answer in
    record { kept = accepted_kept c.args.bytes.now t was_read.answer _ checked was_read.within }

pub returns : goal.returns
returns c =
    let bs = c.args.bytes.now in
    let t = c.in_ok-tables.tables in
    let was_read = c.in_ok-tables.ensures in
    let checked = check_tables t _ _ _ (Ok c.in_ok-check.field-0) c.list.ensures.kinds c.list.ensures.dimensions c.plan.ensures c.in_ok-check.ensures.answer in
    let says = accepted_says bs t was_read.answer _ checked c.args.self.now.tables in
    record {
      answer = says.0;
      after = says.1;
      refused = tt;
      refuses = says.2;
      file = was_read.inverse;
    }
