pub mod LinkNumbers
pub mod Numbers
