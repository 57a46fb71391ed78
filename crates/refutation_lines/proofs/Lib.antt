mod PutLaws
mod Soundness
