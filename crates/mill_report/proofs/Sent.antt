-- What is said has some bytes, so that a call was made.
use Rattle.std.proofs.Common.{◌≡◌, ℕ, Bool, Result, List, drop}
use Rattle.std.specs.Result.{is_err}
use Rattle.slab_desk.specs.Causes.{is_stopped_after}
use Rattle.mill_model.specs.Mill.{Mill}
use Rattle.mill_model.specs.Fronts.{Point}
use Rattle.line_out.proofs.Loops.{stopped_after_some}
use Rattle.mill_report.specs.declared.word.Word.{Word}
use Rattle.mill_report.specs.Reports.{report_text, summary_text}

pub stopped_after_report : {T E : Type 0} (before : Bool) (points : List Point) (opened bare : ℕ) (word : Word) (result : Result T E)
    → is_stopped_after before (report_text points opened bare word) result ≡ is_err result
stopped_after_report before points opened bare word result = stopped_after_some before 102 (drop 1 (report_text points opened bare word)) result

pub stopped_after_summary : {T E : Type 0} (before : Bool) (m : Mill) (points : List Point) (opened bare : ℕ) (word : Word) (result : Result T E)
    → is_stopped_after before (summary_text m points opened bare word) result ≡ is_err result
stopped_after_summary before m points opened bare word result = stopped_after_some before 109 (drop 1 (summary_text m points opened bare word)) result
