-- `formula::deviation::deviation` meets its contract: each kind has its formula.
use mathlib.Core.Logic.{◌⊎◌, inl, inr}
use mathlib.Core.Path.{◌≡◌, refl, sym, ◌∙◌, ap}
use lib.IntN.{ℤ, pos}
use mir.Syntax.{w64}
use mir.Val.{SFits}
use borrow.Author.Rules.{rules}
use Rattle.whole.proofs.Machine.{back, read_back}
use Rattle.rules.specs.declared.Kind.{Kind}
use Rattle.rules.specs.declared.Kind.TheVariants.{Generator, RealTimeLoad, ProfileLoad, Import, Export, Unknown}
use Rattle.rules.specs.Record.{Entry}
use Rattle.rules.specs.Deviation.{deviation_as, deviation}
use Rattle.formula.proofs.deviation.deviation.Goals as goal

-- what the call for the entry's kind gave is the entry's deviation, and it is read back whole
told : (r : Entry) (k : Kind) → r.kind ≡ k → (d : ℤ) → SFits w64 d → d ≡ deviation_as r k → back d ≡ deviation r
unfolding deviation
told r k e d ok f = read_back ok ∙ f ∙ sym (ap (deviation_as r) e)

-- of two kinds that have one formula
told_both : (r : Entry) (k l : Kind) → (r.kind ≡ k) ⊎ (r.kind ≡ l) → (d : ℤ) → SFits w64 d → d ≡ deviation_as r k → d ≡ deviation_as r l →
    back d ≡ deviation r
told_both r k l (inl e) d ok f g = told r k e d ok f
told_both r k l (inr e) d ok f g = told r l e d ok g

-- Kind::Generator => generator_deviation(r)
pub returns-in-Generator : goal.returns-in-Generator
returns-in-Generator c = told _ Generator c.in-Generator.is _ (search rules) c.generator_deviation.ensures

-- Kind::RealTimeLoad | Kind::ProfileLoad => load_deviation(r)
pub returns-in-RealTimeLoad : goal.returns-in-RealTimeLoad
returns-in-RealTimeLoad c =
    told_both _ RealTimeLoad ProfileLoad c.in-RealTimeLoad.is _ (search rules) c.load_deviation.ensures c.load_deviation.ensures

-- Kind::Import => import_deviation(r)
pub returns-in-Import : goal.returns-in-Import
returns-in-Import c = told _ Import c.in-Import.is _ (search rules) c.import_deviation.ensures

-- Kind::Export => export_deviation(r)
pub returns-in-Export : goal.returns-in-Export
returns-in-Export c = told _ Export c.in-Export.is _ (search rules) c.export_deviation.ensures

-- Kind::Unknown => 0
pub returns-in-Unknown : goal.returns-in-Unknown
returns-in-Unknown c = told _ Unknown c.in-Unknown.is (pos 0) (search rules) refl
