use Rattle.std.proofs.Common.{inr, sym}
use Rattle.oa_disk.proofs.Folders.{before}
use Rattle.oa_disk.proofs.file.folder_of.Goals as goal

pub returns-in-Some : goal.returns-in-Some
returns-in-Some c =
    let found = c.in-Some.ensures.cases in
    inr (before c.args.path.now c.in-Some.folder.now found.0 found.1 found.2.0 found.2.1 found.3 (sym c.if-not-is_empty.ensures))
