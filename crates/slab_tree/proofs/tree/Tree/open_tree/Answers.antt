use Rattle.std.proofs.Common.{List, Option, sym, subst, ◌∙◌}
use Rattle.mill_model.specs.declared.ask.Ask.{Ask}
use Rattle.slab_tree.specs.Searches.{opening_of, bare_count}
use Rattle.slab_tree.specs.Unfinished.{IsCutTree}
use Rattle.slab_tree.proofs.Endings.{cut_tree}
use Rattle.slab_tree.proofs.tree.Tree.open_tree.Goals as goal

pub returns-clause-cut : goal.returns-clause-cut
returns-clause-cut c = λ m limit refused. subst (λ (l : List (Option Ask)). IsCutTree m (opening_of c.args.self) limit (bare_count c.args.self.nodes) refused.bare c.args.self.path l) (sym (c.new.ensures ∙ c.in_ok-list.ensures)) (cut_tree m limit c.args.self refused)
