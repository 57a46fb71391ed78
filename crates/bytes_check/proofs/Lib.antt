mod Announced
mod RuleLaws
mod ClauseLaws
mod DeletionLaws
mod ItemLaws
mod TextLaws
