-- What is written.
use Rattle.file.specs.Contents.{Contents, holding}
use Rattle.file.specs.declared.parts.FileParts.{FileParts}

-- what the parts of a file hold
abbrev pub parts_contents : FileParts → Contents
parts_contents p = holding p.list.kinds.now p.list.dimensions.now p.plan.now
