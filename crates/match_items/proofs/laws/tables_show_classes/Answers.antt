use Rattle.std.proofs.Common.{ℕ, Bool, ap}
use Rattle.std.proofs.Math.Path.{fun_ext}
use Rattle.match_items.specs.Views.{text_scene}
use Rattle.match_items.proofs.laws.tables_show_classes.Goals as goal

pub returns : goal.returns
returns c tree table view is_table =
    ap (λ (has : ℕ → ℕ → Bool). record (text_scene view table) { class_has = has })
    (fun_ext (λ class. fun_ext (λ b. is_table.answers class b)))
