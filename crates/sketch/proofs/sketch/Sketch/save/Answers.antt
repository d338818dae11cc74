use Rattle.std.proofs.Common.{◌≡◌, ap, ◌∙◌, rules}
use Rattle.file.specs.Contents.{contents, holding}
use Rattle.file.specs.Files.{write}
use Rattle.sketch.specs.Buffers.{put_answer, put_after}
use Rattle.sketch.specs.Sketches.{sketch_file}
use Rattle.sketch.proofs.Filing.{one_file, parts_fit}
use Rattle.sketch.proofs.sketch.Sketch.save.Goals as goal

pub invariant_of-parts : goal.invariant_of-parts
invariant_of-parts c =
    let s = c.args.self.now in
    record { within = parts_fit (contents s.tables) s.kept.2 _ _ _ c.list.ensures.kinds c.list.ensures.dimensions c.plan.ensures.value }

pub returns : goal.returns
returns c =
    let s = c.args.self.now in
    let same : write (holding c.list.result.kinds.now c.list.result.dimensions.now c.plan.result.now) ≡ sketch_file s =
    (λ i. write (holding (c.list.ensures.kinds i) (c.list.ensures.dimensions i) (c.plan.ensures.value i))) in
    let text = c.as_slice.ensures.value ∙ c.encode.ensures.answer ∙ same in
    let short = c.as_slice.ensures.fits in
    record {
      answer = c.put.ensures.answer ∙ ap (λ l. put_answer l c.args.buffer.now) text;
      within = c.put.ensures.within;
      after = c.put.ensures.after ∙ ap (λ l. put_after l c.args.buffer.now) text;
      room = λ h. search rules;
      file = one_file (contents s.tables) s.kept.2;
    }
