pub mod FormulaLaws
