pub mod Arrays
pub mod ByteLaws
pub mod KeyLaws
pub mod Rc5Laws
