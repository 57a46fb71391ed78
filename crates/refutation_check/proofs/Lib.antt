mod Table
mod Trail
mod JudgementLaws
mod HintLaws
